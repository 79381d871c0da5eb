-- The tests of equality that the types derive, and that of two terms, find equal exactly what is equal.
use Rattle.std.proofs.Common.{◌≡◌, ℕ, Bool, true, false, refl, sym, ap, rules, eqb-true}
use Rattle.std.specs.Prelude.{◌&&◌, ◌==◌}
use Rattle.std.proofs.lemmas.Bool.{and_parts}
use mathlib.Core.Bool.{true≢false}
use denote.Enum.Bare.{same_true}
use Rattle.term_core_spec.specs.declared.Width.{Width}
use Rattle.term_core_spec.specs.contracts.WidthPartialEq.TheImpl as width_test
use Rattle.term_core_spec.specs.contracts.Width as width_row
use Rattle.term_core_spec.specs.declared.Sort.{Sort}
use Rattle.term_core_spec.specs.declared.Sort.TheVariants as sort
use Rattle.term_core_spec.specs.contracts.SortPartialEq.TheImpl as sort_test
use Rattle.term_core_spec.specs.declared.Family.{Family}
use Rattle.term_core_spec.specs.contracts.FamilyPartialEq.TheImpl as family_test
use Rattle.term_core_spec.specs.contracts.Family as family_row
use Rattle.term_core_spec.specs.declared.Variable.{Variable}
use Rattle.term_core_spec.specs.contracts.VariablePartialEq.TheImpl as variable_test
use Rattle.term_core_spec.specs.declared.Atom.{Atom}
use Rattle.term_core_spec.specs.declared.Atom.TheVariants as atom
use Rattle.term_core_spec.specs.contracts.AtomPartialEq.TheImpl as atom_test
use Rattle.term_core_spec.specs.contracts.AtomEq.TheImpl.Laws as atom_laws
use Rattle.term_core_spec.specs.declared.UnaryOperator.{UnaryOperator}
use Rattle.term_core_spec.specs.declared.UnaryOperator.TheVariants as unary
use Rattle.term_core_spec.specs.contracts.UnaryOperatorPartialEq.TheImpl as unary_test
use Rattle.term_core_spec.specs.contracts.UnaryOperatorEq.TheImpl.Laws as unary_laws
use Rattle.term_core_spec.specs.declared.WordOperator.{WordOperator}
use Rattle.term_core_spec.specs.contracts.WordOperatorPartialEq.TheImpl as word_test
use Rattle.term_core_spec.specs.contracts.WordOperator as word_row
use Rattle.term_core_spec.specs.declared.BinaryOperator.{BinaryOperator}
use Rattle.term_core_spec.specs.declared.BinaryOperator.TheVariants as binary
use Rattle.term_core_spec.specs.contracts.BinaryOperatorPartialEq.TheImpl as binary_test
use Rattle.term_core_spec.specs.contracts.BinaryOperatorEq.TheImpl.Laws as binary_laws
use Rattle.term_core_spec.specs.declared.TernaryOperator.{TernaryOperator}
use Rattle.term_core_spec.specs.contracts.TernaryOperatorPartialEq.TheImpl as ternary_test
use Rattle.term_core_spec.specs.contracts.TernaryOperatorEq.TheImpl.Laws as ternary_laws
use Rattle.term_core_spec.specs.contracts.TernaryOperator as ternary_row
use Rattle.term_core_spec.specs.declared.QuaternaryOperator.{QuaternaryOperator}
use Rattle.term_core_spec.specs.contracts.QuaternaryOperatorPartialEq.TheImpl as quaternary_test
use Rattle.term_core_spec.specs.contracts.QuaternaryOperatorEq.TheImpl.Laws as quaternary_laws
use Rattle.term_core_spec.specs.contracts.QuaternaryOperator as quaternary_row
use Rattle.term_core_spec.specs.Term.{Term, Leaf, Unary, Binary, Ternary, Quaternary, Octonary}
use Rattle.term_core_spec.specs.Same.{same_term}

pub width-same : (a b : Width) → width_test.ghosts.eq a b ≡ true → a ≡ b
width-same a b e = same_true width_row.the_type (search rules) a b e

pub family-same : (a b : Family) → family_test.ghosts.eq a b ≡ true → a ≡ b
family-same a b e = same_true family_row.the_type (search rules) a b e

pub word-same : (a b : WordOperator) → word_test.ghosts.eq a b ≡ true → a ≡ b
word-same a b e = same_true word_row.the_type (search rules) a b e

pub ternary-same : (a b : TernaryOperator) → ternary_test.ghosts.eq a b ≡ true → a ≡ b
ternary-same a b e = same_true ternary_row.the_type (search rules) a b e

pub quaternary-same : (a b : QuaternaryOperator) → quaternary_test.ghosts.eq a b ≡ true → a ≡ b
quaternary-same a b e = same_true quaternary_row.the_type (search rules) a b e

pub sort-same : (a b : Sort) → sort_test.ghosts.eq a b ≡ true → a ≡ b
sort-same sort.Truth sort.Truth e = refl
sort-same (sort.Word v) (sort.Word w) e = ap sort.Word (width-same v w e)
sort-same sort.Memory sort.Memory e = refl
sort-same a b e = absurd (true≢false (sym e))

pub variable-same : (a b : Variable) → variable_test.ghosts.eq a b ≡ true → a ≡ b
variable-same a b e =
    let first = and_parts (family_test.ghosts.eq a.family b.family) _ e in
    let second = and_parts (a.index == b.index) _ first.1 in
    let third = and_parts (a.instance == b.instance) _ second.1 in
    let family : a.family ≡ b.family = family-same a.family b.family first.0 in
    let index : a.index ≡ b.index = eqb-true a.index b.index second.0 in
    let instance : a.instance ≡ b.instance = eqb-true a.instance b.instance third.0 in
    let sorts : a.sort ≡ b.sort = sort-same a.sort b.sort third.1 in
    fields a.family b.family a.index b.index a.instance b.instance a.sort b.sort family index instance sorts
  where
    made : Family → ℕ → ℕ → Sort → Variable
    made f i n s = record { family = f; index = i; instance = n; sort = s }

    fields : (f g : Family) (i j n m : ℕ) (s t : Sort) → f ≡ g → i ≡ j → n ≡ m → s ≡ t → made f i n s ≡ made g j m t
    fields f g i j n m s t p q r u = cc

truth-same : (a b : Bool) → atom_test.ghosts.eq (atom.Truth a) (atom.Truth b) ≡ true → a ≡ b
truth-same true true e = refl
truth-same false false e = refl
truth-same a b e = absurd (true≢false (sym e))

pub atom-same : (a b : Atom) → atom_test.ghosts.eq a b ≡ true → a ≡ b
atom-same (atom.Truth a) (atom.Truth b) e = ap atom.Truth (truth-same a b e)
atom-same (atom.Constant v a) (atom.Constant w b) e =
    let parts = and_parts (width_test.ghosts.eq v w) (a == b) e in
    let width : v ≡ w = width-same v w parts.0 in
    let number : a ≡ b = eqb-true a b parts.1 in
    cc
atom-same (atom.Open a) (atom.Open b) e = ap atom.Open (variable-same a b e)
atom-same a b e = absurd (true≢false (sym e))

pub unary-same : (a b : UnaryOperator) → unary_test.ghosts.eq a b ≡ true → a ≡ b
unary-same unary.Not unary.Not e = refl
unary-same unary.Complement unary.Complement e = refl
unary-same (unary.ZeroExtend v) (unary.ZeroExtend w) e = ap unary.ZeroExtend (width-same v w e)
unary-same (unary.SignExtend v) (unary.SignExtend w) e = ap unary.SignExtend (width-same v w e)
unary-same (unary.Low v) (unary.Low w) e = ap unary.Low (width-same v w e)
unary-same (unary.Byte j) (unary.Byte k) e = ap unary.Byte (eqb-true j k e)
unary-same a b e = absurd (true≢false (sym e))

pub binary-same : (a b : BinaryOperator) → binary_test.ghosts.eq a b ≡ true → a ≡ b
binary-same binary.And binary.And e = refl
binary-same binary.Or binary.Or e = refl
binary-same binary.Equal binary.Equal e = refl
binary-same binary.Less binary.Less e = refl
binary-same (binary.Word a) (binary.Word b) e = ap binary.Word (word-same a b e)
binary-same binary.Load binary.Load e = refl
binary-same binary.Join binary.Join e = refl
binary-same a b e = absurd (true≢false (sym e))

-- ---- terms

pub same_is : (s t : Term) → same_term s t ≡ true → s ≡ t
unfolding same_term
same_is (Leaf x) (Leaf y) e = ap Leaf (atom-same x y e)
same_is (Unary o a) (Unary p b) e =
    let parts = and_parts _ (same_term a b) e in
    let operator : o ≡ p = unary-same o p parts.0 in
    let e1 : a ≡ b = same_is a b parts.1 in
    cc
same_is (Binary o a1 a2) (Binary p b1 b2) e =
    let parts = and_parts _ _ e in
    let operator : o ≡ p = binary-same o p parts.0 in
    let r1 = and_parts (same_term a1 b1) _ parts.1 in
    let e1 : a1 ≡ b1 = same_is a1 b1 r1.0 in
    let e2 : a2 ≡ b2 = same_is a2 b2 r1.1 in
    cc
same_is (Ternary o a1 a2 a3) (Ternary p b1 b2 b3) e =
    let parts = and_parts _ _ e in
    let operator : o ≡ p = ternary-same o p parts.0 in
    let r1 = and_parts (same_term a1 b1) _ parts.1 in
    let e1 : a1 ≡ b1 = same_is a1 b1 r1.0 in
    let r2 = and_parts (same_term a2 b2) _ r1.1 in
    let e2 : a2 ≡ b2 = same_is a2 b2 r2.0 in
    let e3 : a3 ≡ b3 = same_is a3 b3 r2.1 in
    cc
same_is (Quaternary o a1 a2 a3 a4) (Quaternary p b1 b2 b3 b4) e =
    let parts = and_parts _ _ e in
    let operator : o ≡ p = quaternary-same o p parts.0 in
    let r1 = and_parts (same_term a1 b1) _ parts.1 in
    let e1 : a1 ≡ b1 = same_is a1 b1 r1.0 in
    let r2 = and_parts (same_term a2 b2) _ r1.1 in
    let e2 : a2 ≡ b2 = same_is a2 b2 r2.0 in
    let r3 = and_parts (same_term a3 b3) _ r2.1 in
    let e3 : a3 ≡ b3 = same_is a3 b3 r3.0 in
    let e4 : a4 ≡ b4 = same_is a4 b4 r3.1 in
    cc
same_is (Octonary a1 a2 a3 a4 a5 a6 a7 a8) (Octonary b1 b2 b3 b4 b5 b6 b7 b8) e =
    let r1 = and_parts (same_term a1 b1) _ e in
    let e1 : a1 ≡ b1 = same_is a1 b1 r1.0 in
    let r2 = and_parts (same_term a2 b2) _ r1.1 in
    let e2 : a2 ≡ b2 = same_is a2 b2 r2.0 in
    let r3 = and_parts (same_term a3 b3) _ r2.1 in
    let e3 : a3 ≡ b3 = same_is a3 b3 r3.0 in
    let r4 = and_parts (same_term a4 b4) _ r3.1 in
    let e4 : a4 ≡ b4 = same_is a4 b4 r4.0 in
    let r5 = and_parts (same_term a5 b5) _ r4.1 in
    let e5 : a5 ≡ b5 = same_is a5 b5 r5.0 in
    let r6 = and_parts (same_term a6 b6) _ r5.1 in
    let e6 : a6 ≡ b6 = same_is a6 b6 r6.0 in
    let r7 = and_parts (same_term a7 b7) _ r6.1 in
    let e7 : a7 ≡ b7 = same_is a7 b7 r7.0 in
    let e8 : a8 ≡ b8 = same_is a8 b8 r7.1 in
    cc
same_is s t e = absurd (true≢false (sym e))

pub same_itself : (t : Term) → same_term t t ≡ true
unfolding same_term
same_itself (Leaf x) = atom_laws.lawful.laws.refl x
same_itself (Unary o a) = rw (unary_laws.lawful.laws.refl o) (same_itself a)
same_itself (Binary o a b) = rw (binary_laws.lawful.laws.refl o) (rw (same_itself a) (same_itself b))
same_itself (Ternary o a b c) = rw (ternary_laws.lawful.laws.refl o) (rw (same_itself a, same_itself b) (same_itself c))
same_itself (Quaternary o a b c d) = rw (quaternary_laws.lawful.laws.refl o) (rw (same_itself a, same_itself b, same_itself c) (same_itself d))
same_itself (Octonary a b c d e f g h) = rw (same_itself a, same_itself b, same_itself c, same_itself d, same_itself e, same_itself f, same_itself g) (same_itself h)
