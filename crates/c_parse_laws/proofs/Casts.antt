-- Postfix expressions by their first token: a bracket, or an atom.
use Rattle.std.proofs.Common.{ℕ, List, ◌≡◌, Bool, true, false, [], ◌∷◌, Some, None, refl, subst, cond, sym, ap, suc, ◌+◌, ◌++◌}
use Rattle.c_token_spec.specs.declared.token.Punctuator.TheVariants as punctuator
use Rattle.c_token_spec.specs.Lexical.{Token, Name as name_token, Word, Number as number_token, Character as character_token, Mark}
use Rattle.c_syntax_spec.specs.Expression as tree
use Rattle.c_parse_spec.specs.declared.Role.TheVariants.{OperandEnd}
use Rattle.c_parse_spec.specs.Leaves.{Leaf, plain, expected, brackets, mark, named, number, character}
use Rattle.c_parse_spec.specs.Expressions.{is_typedef_name, Primary, name, constant, character_constant, Conditional, bracketed, Postfix, primary, index, member, operators}
use Rattle.exact_read.specs.Grammar.{One, Map}
use Rattle.exact_read.specs.Folds.{base, step}
use Rattle.c_parse_laws.specs.Classes.{atom_at, atom_of}
use Rattle.c_parse_laws.specs.Stops.{ends_postfix}
use Rattle.c_parse_laws.specs.Parsers.{Suffix, with_suffix, ByIndex, ByMember}
use Rattle.c_parse_laws.specs.Exactness.{Closed}
use Rattle.c_parse_laws.proofs.Suffixes.{by_index, by_member, Suffixed, SuffixText}

-- atoms
abbrev pub Atom : (names : List (List ℕ)) → tree.Expression → List Leaf → Type 0
Atom names = One plain (atom_at names)

atom_by : (names : List (List ℕ)) (depth count : ℕ) (k : Token) (o : ℕ) (x : tree.Expression) → atom_of names k o ≡ Some x → Primary names depth count x (plain (record { token = k; offset = o }) ∷ [])
atom_by names depth count (name_token spelling) o x e = by_name (is_typedef_name names spelling) refl e
  where
    by_name : (b : Bool) → is_typedef_name names spelling ≡ b → cond b None (Some (tree.Named (record { spelling = spelling; offset = o }))) ≡ Some x → Primary names depth count x (plain (record { token = name_token spelling; offset = o }) ∷ [])
    by_name true f e = absurd (cc)
    by_name false f e = let same : tree.Named (record { spelling = spelling; offset = o }) ≡ x = cc in subst (λ y. Primary names depth count y (plain (record { token = name_token spelling; offset = o }) ∷ [])) same (name depth count (record { spelling = spelling; offset = o }) f)
atom_by names depth count (number_token value type) o x e = let same : tree.Number value type o ≡ x = cc in subst (λ y. Primary names depth count y (plain (record { token = number_token value type; offset = o }) ∷ [])) same (constant depth count value type o)
atom_by names depth count (character_token value) o x e = let same : tree.Character value o ≡ x = cc in subst (λ y. Primary names depth count y (plain (record { token = character_token value; offset = o }) ∷ [])) same (character_constant depth count value o)
atom_by names depth count (Word keyword) o x e = absurd (cc)
atom_by names depth count (Mark p) o x e = absurd (cc)

atom_primary : (names : List (List ℕ)) (depth count : ℕ) (x : tree.Expression) (text : List Leaf) → Atom names x text → Primary names depth count x text
atom_primary names depth count x text o = subst (λ t. Primary names depth count x t) (sym o.cut) (atom_by names depth count o.token.token o.token.offset x o.is)

pub atom_ends_of : (names : List (List ℕ)) (k : Token) (o : ℕ) (x : tree.Expression) → atom_of names k o ≡ Some x → ends_postfix x ≡ true
atom_ends_of names (name_token spelling) o x e = by_name (is_typedef_name names spelling) e
  where
    by_name : (b : Bool) → cond b None (Some (tree.Named (record { spelling = spelling; offset = o }))) ≡ Some x → ends_postfix x ≡ true
    by_name true e = absurd (cc)
    by_name false e = let same : tree.Named (record { spelling = spelling; offset = o }) ≡ x = cc in ap ends_postfix (sym same)
atom_ends_of names (number_token value type) o x e = let same : tree.Number value type o ≡ x = cc in ap ends_postfix (sym same)
atom_ends_of names (character_token value) o x e = let same : tree.Character value o ≡ x = cc in ap ends_postfix (sym same)
atom_ends_of names (Word keyword) o x e = absurd (cc)
atom_ends_of names (Mark p) o x e = absurd (cc)

-- what follows `(` at an offset
abbrev pub InsideText : (names : List (List ℕ)) → (depth count offset : ℕ) → tree.Expression → List Leaf → Type 0
InsideText names depth count offset = Map (λ x. tree.Bracketed x offset) (Closed (expected OperandEnd) punctuator.RightParenthesis (Conditional names (suc depth) (suc count)))

abbrev pub opening : (depth count offset : ℕ) → Leaf
opening depth count offset = brackets (suc depth) (suc count) (mark punctuator.LeftParenthesis offset)

inside_primary : (names : List (List ℕ)) (depth count offset : ℕ) (x : tree.Expression) (text : List Leaf) → InsideText names depth count offset x text → Primary names depth count x (opening depth count offset ∷ text)
inside_primary names depth count offset x text m = let c = m.derives in rw (m.is, c.cut) (bracketed depth count m.inner c.inside offset c.close c.derives)

-- postfix expressions, by their first token
pub atom_postfix : (names : List (List ℕ)) (depth count : ℕ) (x : tree.Expression) (text : List Leaf) → Suffixed names depth count (Atom names) x text → Postfix names depth count x text
atom_postfix names depth count x text (base y t one) = primary depth count y t (atom_primary names depth count y t one)
atom_postfix names depth count x text (step y s left right h (by_index i inside offset close k)) = index depth count y i left inside offset close (atom_postfix names depth count y left h) k
atom_postfix names depth count x text (step y s left right h (by_member a n offset)) = member depth count y a n left offset (atom_postfix names depth count y left h)

pub bracket_postfix : (names : List (List ℕ)) (depth count offset : ℕ) (x : tree.Expression) (text : List Leaf) → Suffixed names depth count (InsideText names depth count offset) x text → Postfix names depth count x (opening depth count offset ∷ text)
bracket_postfix names depth count offset x text (base y t one) = primary depth count y (opening depth count offset ∷ t) (inside_primary names depth count offset y t one)
bracket_postfix names depth count offset x text (step y s left right h (by_index i inside p close k)) = index depth count y i (opening depth count offset ∷ left) inside p close (bracket_postfix names depth count offset y left h) k
bracket_postfix names depth count offset x text (step y s left right h (by_member a n p)) = member depth count y a n (opening depth count offset ∷ left) p (bracket_postfix names depth count offset y left h)

pub data Split (names : List (List ℕ)) (depth count : ℕ) (x : tree.Expression) (text : List Leaf) : Type 0 where
  at_atom : Suffixed names depth count (Atom names) x text → Split names depth count x text
  at_bracket : (offset : ℕ) (rest : List Leaf) → text ≡ opening depth count offset ∷ rest → Suffixed names depth count (InsideText names depth count offset) x rest → Split names depth count x text

primary_split : (names : List (List ℕ)) (depth count : ℕ) (x : tree.Expression) (text : List Leaf) → Primary names depth count x text → Split names depth count x text
primary_split names depth count x text (name d c n e) = at_atom (base x text (record { token = named n; is = rw e refl; cut = refl }))
primary_split names depth count x text (constant d c value type offset) = at_atom (base x text (record { token = number value type offset; is = refl; cut = refl }))
primary_split names depth count x text (character_constant d c value offset) = at_atom (base x text (record { token = character value offset; is = refl; cut = refl }))
primary_split names depth count x text (bracketed d c y inside offset close h) =
    at_bracket offset (inside ++ expected OperandEnd (mark punctuator.RightParenthesis close) ∷ []) refl
    (base x _ (record { inner = y; is = refl; derives = record { inside = inside; close = close; derives = h; cut = refl } }))

split_step : (names : List (List ℕ)) (depth count : ℕ) (x : tree.Expression) (s : Suffix) (left right : List Leaf) → SuffixText names depth (count + operators x) s right → Split names depth count x left → Split names depth count (with_suffix x s) (left ++ right)
split_step names depth count x s left right one (at_atom h) = at_atom (step x s left right h one)
split_step names depth count x s left right one (at_bracket offset rest cut h) = at_bracket offset (rest ++ right) (ap (λ t. t ++ right) cut) (step x s rest right h one)

pub postfix_split : (names : List (List ℕ)) (depth count : ℕ) (x : tree.Expression) (text : List Leaf) → Postfix names depth count x text → Split names depth count x text
postfix_split names depth count x text (primary d c y t h) = primary_split names d c y t h
postfix_split names depth count x text (index d c y i prefix inside offset close h k) = split_step names d c y (ByIndex i offset) prefix _ (by_index i inside offset close k) (postfix_split names d c y prefix h)
postfix_split names depth count x text (member d c y a n prefix offset h) = split_step names d c y (ByMember a n offset) prefix _ (by_member a n offset) (postfix_split names d c y prefix h)
