-- The trees of what registers have: which are equal, and the parts of each.
use Rattle.std.proofs.Common.{◌≡◌, ℕ, ◌==◌, ◌&&◌, true, refl, ap, ap₂, eqb-true, eq-eqb, Option, Some, None}
use Rattle.std.proofs.lemmas.Bool.{and_parts, and_from}
use Rattle.std.proofs.lemmas.Option.{same_Some}
use Rattle.code_reach_spec.specs.RunUp.{Symbolic, Constant, Initial, Unknown, Sum, Difference, Shifted, Masked, same, constant_of, parts_of}

-- ---- equal trees

pub same-eq : (a b : Symbolic) → same a b ≡ true → a ≡ b
unfolding same
same-eq (Constant m) (Constant n) e = ap Constant (eqb-true m n e)
same-eq (Constant m) (Initial k) e = absurd (cc)
same-eq (Constant m) (Unknown k) e = absurd (cc)
same-eq (Constant m) (Sum x y) e = absurd (cc)
same-eq (Constant m) (Difference x y) e = absurd (cc)
same-eq (Constant m) (Shifted x k) e = absurd (cc)
same-eq (Constant m) (Masked x k) e = absurd (cc)
same-eq (Initial r) (Constant k) e = absurd (cc)
same-eq (Initial r) (Initial s) e = ap Initial (eqb-true r s e)
same-eq (Initial r) (Unknown k) e = absurd (cc)
same-eq (Initial r) (Sum x y) e = absurd (cc)
same-eq (Initial r) (Difference x y) e = absurd (cc)
same-eq (Initial r) (Shifted x k) e = absurd (cc)
same-eq (Initial r) (Masked x k) e = absurd (cc)
same-eq (Unknown p) (Constant k) e = absurd (cc)
same-eq (Unknown p) (Initial k) e = absurd (cc)
same-eq (Unknown p) (Unknown q) e = ap Unknown (eqb-true p q e)
same-eq (Unknown p) (Sum x y) e = absurd (cc)
same-eq (Unknown p) (Difference x y) e = absurd (cc)
same-eq (Unknown p) (Shifted x k) e = absurd (cc)
same-eq (Unknown p) (Masked x k) e = absurd (cc)
same-eq (Sum a b) (Constant k) e = absurd (cc)
same-eq (Sum a b) (Initial k) e = absurd (cc)
same-eq (Sum a b) (Unknown k) e = absurd (cc)
same-eq (Sum a b) (Sum c d) e =
    let sides = and_parts (same a c) (same b d) e in
    ap₂ Sum (same-eq a c sides.0) (same-eq b d sides.1)
same-eq (Sum a b) (Difference x y) e = absurd (cc)
same-eq (Sum a b) (Shifted x k) e = absurd (cc)
same-eq (Sum a b) (Masked x k) e = absurd (cc)
same-eq (Difference a b) (Constant k) e = absurd (cc)
same-eq (Difference a b) (Initial k) e = absurd (cc)
same-eq (Difference a b) (Unknown k) e = absurd (cc)
same-eq (Difference a b) (Sum x y) e = absurd (cc)
same-eq (Difference a b) (Difference c d) e =
    let sides = and_parts (same a c) (same b d) e in
    ap₂ Difference (same-eq a c sides.0) (same-eq b d sides.1)
same-eq (Difference a b) (Shifted x k) e = absurd (cc)
same-eq (Difference a b) (Masked x k) e = absurd (cc)
same-eq (Shifted a m) (Constant k) e = absurd (cc)
same-eq (Shifted a m) (Initial k) e = absurd (cc)
same-eq (Shifted a m) (Unknown k) e = absurd (cc)
same-eq (Shifted a m) (Sum x y) e = absurd (cc)
same-eq (Shifted a m) (Difference x y) e = absurd (cc)
same-eq (Shifted a m) (Shifted b n) e =
    let sides = and_parts (same a b) (m == n) e in
    ap₂ Shifted (same-eq a b sides.0) (eqb-true m n sides.1)
same-eq (Shifted a m) (Masked x k) e = absurd (cc)
same-eq (Masked a m) (Constant k) e = absurd (cc)
same-eq (Masked a m) (Initial k) e = absurd (cc)
same-eq (Masked a m) (Unknown k) e = absurd (cc)
same-eq (Masked a m) (Sum x y) e = absurd (cc)
same-eq (Masked a m) (Difference x y) e = absurd (cc)
same-eq (Masked a m) (Shifted x k) e = absurd (cc)
same-eq (Masked a m) (Masked b n) e =
    let sides = and_parts (same a b) (m == n) e in
    ap₂ Masked (same-eq a b sides.0) (eqb-true m n sides.1)

pub same-itself : (a : Symbolic) → same a a ≡ true
unfolding same
same-itself (Constant n) = eq-eqb n n refl
same-itself (Initial r) = eq-eqb r r refl
same-itself (Unknown p) = eq-eqb p p refl
same-itself (Sum a b) = and_from (same a a) (same b b) (same-itself a) (same-itself b)
same-itself (Difference a b) = and_from (same a a) (same b b) (same-itself a) (same-itself b)
same-itself (Shifted a m) = and_from (same a a) (m == m) (same-itself a) (eq-eqb m m refl)
same-itself (Masked a m) = and_from (same a a) (m == m) (same-itself a) (eq-eqb m m refl)

pub constant-is : (a : Symbolic) (n : ℕ) → constant_of a ≡ Some n → a ≡ Constant n
unfolding constant_of
constant-is (Constant m) n e = cc
constant-is (Initial r) n e = absurd (cc)
constant-is (Unknown p) n e = absurd (cc)
constant-is (Sum a b) n e = absurd (cc)
constant-is (Difference a b) n e = absurd (cc)
constant-is (Shifted a m) n e = absurd (cc)
constant-is (Masked a m) n e = absurd (cc)

pub parts-are : (a rest : Symbolic) (n : ℕ) → parts_of a ≡ Some (rest, n) → a ≡ Sum rest (Constant n)
unfolding parts_of
parts-are (Sum s (Constant m)) rest n e = ap (λ (p : Symbolic × ℕ). Sum p.0 (Constant p.1)) (same_Some (s, m) (rest, n) e)
parts-are (Constant m) rest n e = absurd (cc)
parts-are (Initial r) rest n e = absurd (cc)
parts-are (Unknown p) rest n e = absurd (cc)
parts-are (Difference a b) rest n e = absurd (cc)
parts-are (Shifted a m) rest n e = absurd (cc)
parts-are (Masked a m) rest n e = absurd (cc)
parts-are (Sum s (Initial r)) rest n e = absurd (cc)
parts-are (Sum s (Unknown p)) rest n e = absurd (cc)
parts-are (Sum s (Sum a b)) rest n e = absurd (cc)
parts-are (Sum s (Difference a b)) rest n e = absurd (cc)
parts-are (Sum s (Shifted a m)) rest n e = absurd (cc)
parts-are (Sum s (Masked a m)) rest n e = absurd (cc)
