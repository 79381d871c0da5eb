-- What an expression begins with, and what it doesn't begin with.
use Rattle.std.proofs.Common.{◌≡◌, ℕ, true, List, ◌∷◌, ◌++◌, ap, refl, [], not, Bool, false, sym, ◌∙◌, subst}
use denote.Enum.Bare.{sameb, same_true}
use Rattle.c_token_spec.specs.declared.token.Punctuator.{Punctuator}
use Rattle.c_token_spec.specs.contracts.token.Punctuator.{the_type}
use Rattle.c_token_spec.specs.Lexical.{Token, Name as name_token, Word, Number as number_token, Character as character_token, Mark, Placed}
use Rattle.c_syntax_spec.specs.declared.UnaryOperator.{UnaryOperator}
use Rattle.c_syntax_spec.specs.declared.UnaryOperator.TheVariants.{AddressOf, Dereference, Plus, Minus, Complement, Not}
use Rattle.c_syntax_spec.specs.Expression as tree
use Rattle.c_parse_spec.specs.Leaves.{Leaf, marks}
use Rattle.c_parse_spec.specs.Expressions.{unary_mark, Primary, name, constant, character_constant, bracketed, Postfix, primary, index, member, Unary, postfix, prefixed, sizeof_expression, sizeof_type, Cast, unary, cast, Binary, operand, tighter, operation, Conditional, logical_or, conditional}
use Rattle.exact_read.specs.Reading.{plains, Stops}
use Rattle.c_parse_laws.specs.Classes.{is_mark}
use Rattle.c_parse_laws.specs.Firsts.{begins_expression, begins_by_mark}

-- the text begins with a token that begins an expression
pub record First (names : List (List ℕ)) (text : List Leaf) : Type 0 where
  pub leaf : Leaf
  pub more : List Leaf
  pub cut : text ≡ leaf ∷ more
  pub yes : begins_expression names leaf.token.token ≡ true

first-append : (names : List (List ℕ)) (left right : List Leaf) → First names left → First names (left ++ right)
first-append names left right f = record { leaf = f.leaf; more = f.more ++ right; cut = ap (λ t. t ++ right) f.cut; yes = f.yes }

unary-begins : (o : UnaryOperator) → begins_by_mark (unary_mark o) ≡ true
unary-begins AddressOf = refl
unary-begins Dereference = refl
unary-begins Plus = refl
unary-begins Minus = refl
unary-begins Complement = refl
unary-begins Not = refl

primary_first : (names : List (List ℕ)) (depth count : ℕ) (x : tree.Expression) (text : List Leaf) → Primary names depth count x text → First names text
primary_first names depth count x text (name d c n e) = record { leaf = _; more = []; cut = refl; yes = ap not e }
primary_first names depth count x text (constant d c value type offset) = record { leaf = _; more = []; cut = refl; yes = refl }
primary_first names depth count x text (character_constant d c value offset) = record { leaf = _; more = []; cut = refl; yes = refl }
primary_first names depth count x text (bracketed d c y inside offset close h) = record { leaf = _; more = _; cut = refl; yes = refl }

pub postfix_first : (names : List (List ℕ)) (depth count : ℕ) (x : tree.Expression) (text : List Leaf) → Postfix names depth count x text → First names text
postfix_first names depth count x text (primary d c y t h) = primary_first names d c y t h
postfix_first names depth count x text (index d c y i prefix inside offset close h k) = first-append names prefix _ (postfix_first names d c y prefix h)
postfix_first names depth count x text (member d c y a n prefix offset h) = first-append names prefix _ (postfix_first names d c y prefix h)

pub unary_first : (names : List (List ℕ)) (depth count : ℕ) (x : tree.Expression) (text : List Leaf) → Unary names depth count x text → First names text
unary_first names depth count x text (postfix d c y t h) = postfix_first names d c y t h
unary_first names depth count x text (prefixed d c o y t offset h) = record { leaf = _; more = t; cut = refl; yes = unary-begins o }
unary_first names depth count x text (sizeof_expression d c y t offset h) = record { leaf = _; more = t; cut = refl; yes = refl }
unary_first names depth count x text (sizeof_type d c y t offset p close h) = record { leaf = _; more = _; cut = refl; yes = refl }

cast_first : (names : List (List ℕ)) (depth count : ℕ) (x : tree.Expression) (text : List Leaf) → Cast names depth count x text → First names text
cast_first names depth count x text (unary d c y t h) = unary_first names d c y t h
cast_first names depth count x text (cast d c ty y inside t offset close h k) = record { leaf = _; more = _; cut = refl; yes = refl }

binary_first : (names : List (List ℕ)) (level depth count : ℕ) (x : tree.Expression) (text : List Leaf) → Binary names level depth count x text → First names text
binary_first names level depth count x text (operand d c y t h) = cast_first names d c y t h
binary_first names level depth count x text (tighter l d c y t h) = binary_first names l d c y t h
binary_first names level depth count x text (operation l d c o y z left right offset e h k) = first-append names left _ (binary_first names _ d c y left h)

pub conditional_first : (names : List (List ℕ)) (depth count : ℕ) (x : tree.Expression) (text : List Leaf) → Conditional names depth count x text → First names text
conditional_first names depth count x text (logical_or d c y t h) = binary_first names 10 d c y t h
conditional_first names depth count x text (conditional d c y z w test first second offset colon h k l) = first-append names test _ (binary_first names 10 d c y test h)

-- a punctuator that begins none
pub begins-not : (names : List (List ℕ)) (q : Punctuator) → begins_by_mark q ≡ false → (k : Token) → begins_expression names k ≡ true → is_mark q k ≡ false
begins-not names q never (Mark p) e = by_test (sameb the_type p q) refl
  where
    by_test : (b : Bool) → sameb the_type p q ≡ b → sameb the_type p q ≡ false
    by_test true f = absurd (let g : false ≡ true = sym never ∙ ap begins_by_mark (sym (same_true the_type tt p q f)) ∙ e in cc)
    by_test false f = f
begins-not names q never (name_token spelling) e = refl
begins-not names q never (Word w) e = refl
begins-not names q never (number_token value type) e = refl
begins-not names q never (character_token value) e = refl

-- a test that no token passes that begins an expression
pub first_not : (names : List (List ℕ)) (test : Token → Bool) → ((k : Token) → begins_expression names k ≡ true → test k ≡ false) → (text : List Leaf) (rest : List Placed) → First names text → Stops (λ t. not (test t.token)) (plains marks text ++ rest)
first_not names test never text rest f = subst (λ t. Stops (λ t. not (test t.token)) (plains marks t ++ rest)) (sym f.cut) (rw (never f.leaf.token.token f.yes) refl)

pub first_not_mark : (names : List (List ℕ)) (q : Punctuator) → begins_by_mark q ≡ false → (text : List Leaf) (rest : List Placed) → First names text → Stops (λ t. not (is_mark q t.token)) (plains marks text ++ rest)
first_not_mark names q never text rest f = first_not names (is_mark q) (begins-not names q never) text rest f
