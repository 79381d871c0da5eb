-- What a tree determines of the production that it is derived by.
use Rattle.std.proofs.Common.{◌≡◌, ℕ, true, List, refl, false, [], ◌∷◌, ap, subst, zero, suc}
use Rattle.c_syntax_spec.specs.Expression as tree
use Rattle.c_parse_spec.specs.Leaves.{Leaf, plain, named}
use Rattle.c_parse_spec.specs.Expressions.{Primary, name, constant, character_constant, bracketed, Postfix, primary, index, member, Unary, Cast, Binary, Conditional, postfix, prefixed, sizeof_expression, sizeof_type, unary, cast, operand, tighter, operation, logical_or, conditional, is_typedef_name}
use Rattle.c_parse_laws.specs.Values.{is_postfix, is_unary}

primary_is : (names : List (List ℕ)) (depth count : ℕ) (x : tree.Expression) (text : List Leaf) → Primary names depth count x text → is_postfix x ≡ true
primary_is names depth count x text (name d c n e) = refl
primary_is names depth count x text (constant d c value type offset) = refl
primary_is names depth count x text (character_constant d c value offset) = refl
primary_is names depth count x text (bracketed d c y inside offset close h) = refl

pub postfix_is : (names : List (List ℕ)) (depth count : ℕ) (x : tree.Expression) (text : List Leaf) → Postfix names depth count x text → is_postfix x ≡ true
postfix_is names depth count x text (primary d c y t h) = primary_is names d c y t h
postfix_is names depth count x text (index d c y i prefix inside offset close h k) = refl
postfix_is names depth count x text (member d c y a n prefix offset h) = refl

postfix_unary : (x : tree.Expression) → is_postfix x ≡ true → is_unary x ≡ true
postfix_unary (tree.Named n) e = refl
postfix_unary (tree.Number value type offset) e = refl
postfix_unary (tree.Character value offset) e = refl
postfix_unary (tree.Bracketed inner offset) e = refl
postfix_unary (tree.Index y i offset) e = refl
postfix_unary (tree.Member y a n offset) e = refl
postfix_unary (tree.Unary o y offset) e = absurd (cc)
postfix_unary (tree.Sizeof y offset) e = absurd (cc)
postfix_unary (tree.SizeofType t offset) e = absurd (cc)
postfix_unary (tree.Cast t y offset) e = absurd (cc)
postfix_unary (tree.Binary o y z offset) e = absurd (cc)
postfix_unary (tree.Conditional y z w offset) e = absurd (cc)

pub unary_is : (names : List (List ℕ)) (depth count : ℕ) (x : tree.Expression) (text : List Leaf) → Unary names depth count x text → is_unary x ≡ true
unary_is names depth count x text (postfix d c y t h) = postfix_unary y (postfix_is names d c y t h)
unary_is names depth count x text (prefixed d c o y t offset h) = refl
unary_is names depth count x text (sizeof_expression d c y t offset h) = refl
unary_is names depth count x text (sizeof_type d c y t offset p close h) = refl

-- and back: an expression whose tree is that of a unary expression is one
unary_of_cast : (names : List (List ℕ)) (depth count : ℕ) (x : tree.Expression) (text : List Leaf) → Cast names depth count x text → is_unary x ≡ true → Unary names depth count x text
unary_of_cast names depth count x text (unary d c y t h) e = h
unary_of_cast names depth count x text (cast d c ty y inside t offset close h k) e = absurd (cc)

unary_of_binary : (names : List (List ℕ)) (level depth count : ℕ) (x : tree.Expression) (text : List Leaf) → Binary names level depth count x text → is_unary x ≡ true → Unary names depth count x text
unary_of_binary names level depth count x text (operand d c y t h) e = unary_of_cast names d c y t h e
unary_of_binary names level depth count x text (tighter l d c y t h) e = unary_of_binary names l d c y t h e
unary_of_binary names level depth count x text (operation l d c o y z left right offset f h k) e = absurd (cc)

pub unary_of : (names : List (List ℕ)) (depth count : ℕ) (x : tree.Expression) (text : List Leaf) → Conditional names depth count x text → is_unary x ≡ true → Unary names depth count x text
unary_of names depth count x text (logical_or d c y t h) e = unary_of_binary names 10 d c y t h e
unary_of names depth count x text (conditional d c y z w test first second offset colon h k l) e = absurd (cc)

postfix_of_unary : (names : List (List ℕ)) (depth count : ℕ) (x : tree.Expression) (text : List Leaf) → Unary names depth count x text → is_postfix x ≡ true → Postfix names depth count x text
postfix_of_unary names depth count x text (postfix d c y t h) e = h
postfix_of_unary names depth count x text (prefixed d c o y t offset h) e = absurd (cc)
postfix_of_unary names depth count x text (sizeof_expression d c y t offset h) e = absurd (cc)
postfix_of_unary names depth count x text (sizeof_type d c y t offset p close h) e = absurd (cc)

pub postfix_of : (names : List (List ℕ)) (depth count : ℕ) (x : tree.Expression) (text : List Leaf) → Conditional names depth count x text → is_postfix x ≡ true → Postfix names depth count x text
postfix_of names depth count x text h e = postfix_of_unary names depth count x text (unary_of names depth count x text h (postfix_unary x e)) e

name_of_primary : (names : List (List ℕ)) (depth count : ℕ) (x : tree.Expression) (text : List Leaf) → Primary names depth count x text → (n : tree.Name) → x ≡ tree.Named n → (text ≡ plain (named n) ∷ []) × (is_typedef_name names n.spelling ≡ false)
name_of_primary names depth count x text (name d c m e) n same = let k : m ≡ n = cc in (ap (λ (l : tree.Name). plain (named l) ∷ []) k, subst (λ (l : tree.Name). is_typedef_name names l.spelling ≡ false) k e)
name_of_primary names depth count x text (constant d c value type offset) n same = absurd (cc)
name_of_primary names depth count x text (character_constant d c value offset) n same = absurd (cc)
name_of_primary names depth count x text (bracketed d c y inside offset close h) n same = absurd (cc)

name_of_postfix : (names : List (List ℕ)) (depth count : ℕ) (x : tree.Expression) (text : List Leaf) → Postfix names depth count x text → (n : tree.Name) → x ≡ tree.Named n → (text ≡ plain (named n) ∷ []) × (is_typedef_name names n.spelling ≡ false)
name_of_postfix names depth count x text (primary d c y t h) n same = name_of_primary names d c y t h n same
name_of_postfix names depth count x text (index d c y i prefix inside offset close h k) n same = absurd (cc)
name_of_postfix names depth count x text (member d c y a m prefix offset h) n same = absurd (cc)

pub name_alone : (names : List (List ℕ)) (depth count : ℕ) (n : tree.Name) (text : List Leaf) → Conditional names depth count (tree.Named n) text → (text ≡ plain (named n) ∷ []) × (is_typedef_name names n.spelling ≡ false)
name_alone names depth count n text h = name_of_postfix names depth count (tree.Named n) text (postfix_of names depth count (tree.Named n) text h refl) n refl

-- a unary expression as a conditional one
binary_unary : (names : List (List ℕ)) (level depth count : ℕ) (x : tree.Expression) (text : List Leaf) → Unary names depth count x text → Binary names level depth count x text
binary_unary names zero depth count x text h = operand depth count x text (unary depth count x text h)
binary_unary names (suc level) depth count x text h = tighter level depth count x text (binary_unary names level depth count x text h)

pub conditional_unary : (names : List (List ℕ)) (depth count : ℕ) (x : tree.Expression) (text : List Leaf) → Unary names depth count x text → Conditional names depth count x text
conditional_unary names depth count x text h = logical_or depth count x text (binary_unary names 10 depth count x text h)

pub conditional_postfix : (names : List (List ℕ)) (depth count : ℕ) (x : tree.Expression) (text : List Leaf) → Postfix names depth count x text → Conditional names depth count x text
conditional_postfix names depth count x text h = conditional_unary names depth count x text (postfix depth count x text h)

pub conditional_name : (names : List (List ℕ)) (depth count : ℕ) (n : tree.Name) → is_typedef_name names n.spelling ≡ false → Conditional names depth count (tree.Named n) (plain (named n) ∷ [])
conditional_name names depth count n e = conditional_postfix names depth count (tree.Named n) (plain (named n) ∷ []) (primary depth count (tree.Named n) (plain (named n) ∷ []) (name depth count n e))
