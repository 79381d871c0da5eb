-- No expression begins with a token that begins a type in brackets.
use Rattle.std.proofs.Common.{◌≡◌, ℕ, false, List, ◌∷◌, ◌++◌, ap, [], refl}
use Rattle.c_syntax_spec.specs.Expression as tree
use Rattle.c_parse_spec.specs.Leaves.{Leaf}
use Rattle.c_parse_spec.specs.Expressions.{Primary, name, constant, character_constant, bracketed, Postfix, primary, index, member, Unary, postfix, prefixed, sizeof_expression, sizeof_type, Cast, unary, cast, Binary, operand, tighter, operation, Conditional, logical_or, conditional}
use Rattle.c_parse_laws.specs.Classes.{begins_type}

-- a text begins with a token that begins no type
pub record NoType (names : List (List ℕ)) (text : List Leaf) : Type 0 where
  pub leaf : Leaf
  pub more : List Leaf
  pub cut : text ≡ leaf ∷ more
  pub no : begins_type names leaf.token.token ≡ false

-- so does a longer text
pub no-append : (names : List (List ℕ)) (left right : List Leaf) → NoType names left → NoType names (left ++ right)
no-append names left right n = record { leaf = n.leaf; more = n.more ++ right; cut = ap (λ t. t ++ right) n.cut; no = n.no }

primary_no : (names : List (List ℕ)) (depth count : ℕ) (x : tree.Expression) (text : List Leaf) → Primary names depth count x text → NoType names text
primary_no names depth count x text (name d c n e) = record { leaf = _; more = []; cut = refl; no = e }
primary_no names depth count x text (constant d c value type offset) = record { leaf = _; more = []; cut = refl; no = refl }
primary_no names depth count x text (character_constant d c value offset) = record { leaf = _; more = []; cut = refl; no = refl }
primary_no names depth count x text (bracketed d c y inside offset close h) = record { leaf = _; more = _; cut = refl; no = refl }

postfix_no : (names : List (List ℕ)) (depth count : ℕ) (x : tree.Expression) (text : List Leaf) → Postfix names depth count x text → NoType names text
postfix_no names depth count x text (primary d c y t h) = primary_no names d c y t h
postfix_no names depth count x text (index d c y i prefix inside offset close h k) = no-append names prefix _ (postfix_no names d c y prefix h)
postfix_no names depth count x text (member d c y a n prefix offset h) = no-append names prefix _ (postfix_no names d c y prefix h)

unary_no : (names : List (List ℕ)) (depth count : ℕ) (x : tree.Expression) (text : List Leaf) → Unary names depth count x text → NoType names text
unary_no names depth count x text (postfix d c y t h) = postfix_no names d c y t h
unary_no names depth count x text (prefixed d c o y t offset h) = record { leaf = _; more = t; cut = refl; no = refl }
unary_no names depth count x text (sizeof_expression d c y t offset h) = record { leaf = _; more = t; cut = refl; no = refl }
unary_no names depth count x text (sizeof_type d c y t offset p close h) = record { leaf = _; more = _; cut = refl; no = refl }

cast_no : (names : List (List ℕ)) (depth count : ℕ) (x : tree.Expression) (text : List Leaf) → Cast names depth count x text → NoType names text
cast_no names depth count x text (unary d c y t h) = unary_no names d c y t h
cast_no names depth count x text (cast d c ty y inside t offset close h k) = record { leaf = _; more = _; cut = refl; no = refl }

binary_no : (names : List (List ℕ)) (level depth count : ℕ) (x : tree.Expression) (text : List Leaf) → Binary names level depth count x text → NoType names text
binary_no names level depth count x text (operand d c y t h) = cast_no names d c y t h
binary_no names level depth count x text (tighter l d c y t h) = binary_no names l d c y t h
binary_no names level depth count x text (operation l d c o y z left right offset e h k) = no-append names left _ (binary_no names _ d c y left h)

pub conditional_no : (names : List (List ℕ)) (depth count : ℕ) (x : tree.Expression) (text : List Leaf) → Conditional names depth count x text → NoType names text
conditional_no names depth count x text (logical_or d c y t h) = binary_no names 10 d c y t h
conditional_no names depth count x text (conditional d c y z w test first second offset colon h k l) = no-append names test _ (binary_no names 10 d c y test h)
