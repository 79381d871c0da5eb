-- The signs that stamps show.
use Rattle.std.proofs.Common.{◌≡◌, ◌<◌, ◌≤◌, ◌+◌, ◌-◌, ◌*◌, ◌/◌, ℕ, zero, suc, Bool, true, false, List, [], ◌∷◌, length, get_or, set, replicate, Option, Some, None, refl, ap, sym, ◌∙◌, subst, arith, All}
use Rattle.std.specs.Prelude.{◌==◌, not, if◌then◌else◌}
use Rattle.std.specs.Int.{from_bool}
use Rattle.std.proofs.lemmas.Bool.{eqb-true, ne_eqb, eq-eqb}
use Rattle.std.proofs.lemmas.Grind.{common_steps}
use Rattle.std.proofs.lemmas.List.{length-replicate}
use Rattle.clause_check_spec.specs.declared.Literal.{Literal}
use Rattle.clause_check_spec.specs.Clause.{is_of, negation}
use Rattle.cnf_core.specs.Codes.{code_of}
use Rattle.clause_check.specs.Signs.{is_sign, sign_of}
use Rattle.clause_check.specs.Stamps.{sign_by, signs_in, AreApart, AreStamps}

-- ---- one variable

-- its literal of a sign is false where its stamp is this round
false_by_tests : (x y sign : Bool) → (x ≡ true → y ≡ true → ⊥)
    → (if sign then y else x) ≡ is_sign (if x then Some true else if y then Some false else None) (not sign)
false_by_tests true true sign apart = absurd (apart refl refl)
false_by_tests true false true apart = refl
false_by_tests true false false apart = refl
false_by_tests false true true apart = refl
false_by_tests false true false apart = refl
false_by_tests false false true apart = refl
false_by_tests false false false apart = refl

abbrev pick : Bool → (of_variable of_negation : ℕ) → ℕ
pick true p n = n
pick false p n = p

false_by : (round p n : ℕ) (sign : Bool) → (p ≡ round → n ≡ round → ⊥) → (pick sign p n == round) ≡ is_sign (sign_by round p n) (not sign)
false_by round p n sign apart =
    test sign ∙ false_by_tests (p == round) (n == round) sign (λ e f. apart (eqb-true p round e) (eqb-true n round f))
  where
    test : (b : Bool) → (pick b p n == round) ≡ (if b then n == round else p == round)
    test true = refl
    test false = refl

-- none of its literals is false
none_by_tests : (x y : Bool) → (if x then Some true else if y then Some false else None) ≡ None → (x ≡ false) × (y ≡ false)
none_by_tests true y e = cc
none_by_tests false true e = cc
none_by_tests false false e = (refl, refl)

other_by : (a b : ℕ) → (a == b) ≡ false → a ≡ b → ⊥
other_by a b e f = grind arith

unset_by : (round p n : ℕ) → sign_by round p n ≡ None → (p ≡ round → ⊥) × (n ≡ round → ⊥)
unset_by round p n e =
    let tests = none_by_tests (p == round) (n == round) e in
    (other_by p round tests.0, other_by n round tests.1)

none_below : (round p n : ℕ) → p < round → n < round → sign_by round p n ≡ None
none_below round p n below_p below_n =
    ap (λ b. if b then Some true else if n == round then Some false else None) (ne_eqb p round (λ e. omega (arith, e, below_p)))
    ∙ ap (λ b. if b then Some false else None) (ne_eqb n round (λ e. omega (arith, e, below_n)))

first_own : (round n : ℕ) → sign_by round round n ≡ Some true
first_own round n = ap (λ b. if b then Some true else if n == round then Some false else None) (eq-eqb round round refl)

second_own : (round p : ℕ) → (p ≡ round → ⊥) → sign_by round p round ≡ Some false
second_own round p other =
    ap (λ b. if b then Some true else if round == round then Some false else None) (ne_eqb p round other)
    ∙ ap (λ b. if b then Some false else None) (eq-eqb round round refl)

-- ---- the variable at an index

abbrev double : ℕ → ℕ
double zero = zero
double (suc i) = suc (suc (double i))

double_is : (i : ℕ) → double i ≡ 2 * i
double_is zero = refl
double_is (suc i) = let inner = double_is i in omega (arith, inner)

pub length_signs : (round : ℕ) (stamps : List ℕ) → length (signs_in round stamps) ≡ length stamps / 2
length_signs round [] = refl
length_signs round (p ∷ []) = refl
length_signs round (p ∷ n ∷ stamps) = let rest = length_signs round stamps in omega (arith, rest)

pair_at : (round : ℕ) (stamps : List ℕ) (i d : ℕ) → AreApart round stamps → i < length (signs_in round stamps)
    → (get_or (signs_in round stamps) i None ≡ sign_by round (get_or stamps (double i) d) (get_or stamps (suc (double i)) d))
    × (get_or stamps (double i) d ≡ round → get_or stamps (suc (double i)) d ≡ round → ⊥)
pair_at round [] i d apart below = absurd (omega (arith, below))
pair_at round (p ∷ []) i d apart below = absurd (omega (arith, below))
pair_at round (p ∷ n ∷ stamps) zero d apart below = (refl, apart.0)
pair_at round (p ∷ n ∷ stamps) (suc i) d apart below = pair_at round stamps i d apart.1 (omega (arith, below))

set_first : (round : ℕ) (stamps : List ℕ) (i : ℕ) → AreApart round stamps → i < length (signs_in round stamps)
    → get_or (signs_in round stamps) i None ≡ None
    → (signs_in round (set stamps (double i) round) ≡ set (signs_in round stamps) i (Some true)) × AreApart round (set stamps (double i) round)
set_first round [] i apart below unset = absurd (omega (arith, below))
set_first round (p ∷ []) i apart below unset = absurd (omega (arith, below))
set_first round (p ∷ n ∷ stamps) zero apart below unset =
    (ap (λ o. o ∷ signs_in round stamps) (first_own round n), (λ e f. (unset_by round p n unset).1 f, apart.1))
set_first round (p ∷ n ∷ stamps) (suc i) apart below unset =
    let rest = set_first round stamps i apart.1 (omega (arith, below)) unset in
    (ap (λ signs. sign_by round p n ∷ signs) rest.0, (apart.0, rest.1))

set_second : (round : ℕ) (stamps : List ℕ) (i : ℕ) → AreApart round stamps → i < length (signs_in round stamps)
    → get_or (signs_in round stamps) i None ≡ None
    → (signs_in round (set stamps (suc (double i)) round) ≡ set (signs_in round stamps) i (Some false)) × AreApart round (set stamps (suc (double i)) round)
set_second round [] i apart below unset = absurd (omega (arith, below))
set_second round (p ∷ []) i apart below unset = absurd (omega (arith, below))
set_second round (p ∷ n ∷ stamps) zero apart below unset =
    let other = (unset_by round p n unset).0 in
    (ap (λ o. o ∷ signs_in round stamps) (second_own round p other), (λ e f. other e, apart.1))
set_second round (p ∷ n ∷ stamps) (suc i) apart below unset =
    let rest = set_second round stamps i apart.1 (omega (arith, below)) unset in
    (ap (λ signs. sign_by round p n ∷ signs) rest.0, (apart.0, rest.1))

-- ---- a literal

from_bool_bound : (b : Bool) → from_bool b ≤ 1
from_bool_bound true = omega arith
from_bool_bound false = omega arith

pub within : (round : ℕ) (stamps : List ℕ) (signs : List (Option Bool)) (l : Literal) → signs_in round stamps ≡ signs → is_of (length signs) l ≡ true
    → (2 ≤ code_of l) × (code_of l - 2 < length stamps)
within round stamps signs l shown named =
    let low : 1 ≤ l.variable = grind arith in
    let high : l.variable ≤ length signs = grind arith in
    let bound = from_bool_bound l.is_negated in
    let half = sym (ap length shown) ∙ length_signs round stamps in
    (omega (arith, low, bound), omega (arith, low, high, bound, half))

abbrev index_of : Literal → ℕ
index_of l = l.variable - 1

index_below : (signs : List (Option Bool)) (l : Literal) → is_of (length signs) l ≡ true → index_of l < length signs
index_below signs l named =
    let low : 1 ≤ l.variable = grind arith in
    let high : l.variable ≤ length signs = grind arith in
    omega (arith, low, high)

stamp_of : (l : Literal) (variables : ℕ) → is_of variables l ≡ true → code_of l - 2 ≡ double (index_of l) + from_bool l.is_negated
stamp_of l variables named =
    let low : 1 ≤ l.variable = grind arith in
    let twice = double_is (index_of l) in
    omega (arith, low, twice)

picked : (stamps : List ℕ) (i d : ℕ) (b : Bool) → get_or stamps (double i + from_bool b) d ≡ pick b (get_or stamps (double i) d) (get_or stamps (suc (double i)) d)
picked stamps i d true = let same : double i + 1 ≡ suc (double i) = omega arith in ap (λ k. get_or stamps k d) same
picked stamps i d false = let same : double i + 0 ≡ double i = omega arith in ap (λ k. get_or stamps k d) same

-- the literal is false where its stamp is this round
pub false_at : (round : ℕ) (stamps : List ℕ) (signs : List (Option Bool)) (l : Literal) (d : ℕ) → AreStamps round stamps → signs_in round stamps ≡ signs
    → is_of (length signs) l ≡ true → (get_or stamps (code_of l - 2) d == round) ≡ is_sign (sign_of signs l) (not l.is_negated)
false_at round stamps signs l d kept shown named =
    let below = subst (λ s. index_of l < length s) (sym shown) (index_below signs l named) in
    let pair = pair_at round stamps (index_of l) d kept.apart below in
    ap (λ k. get_or stamps k d == round) (stamp_of l (length signs) named)
    ∙ ap (λ s. s == round) (picked stamps (index_of l) d l.is_negated)
    ∙ false_by round (get_or stamps (double (index_of l)) d) (get_or stamps (suc (double (index_of l))) d) l.is_negated pair.1
    ∙ ap (λ o. is_sign o (not l.is_negated)) (sym pair.0 ∙ ap (λ s. get_or s (index_of l) None) shown)

-- one more literal is made false
set_pair : (round : ℕ) (stamps : List ℕ) (i : ℕ) (b : Bool) → AreApart round stamps → i < length (signs_in round stamps)
    → get_or (signs_in round stamps) i None ≡ None
    → (signs_in round (set stamps (double i + from_bool b) round) ≡ set (signs_in round stamps) i (Some (not b)))
    × AreApart round (set stamps (double i + from_bool b) round)
set_pair round stamps i true apart below unset =
    let same : double i + 1 ≡ suc (double i) = omega arith in
    subst (λ k. (signs_in round (set stamps k round) ≡ set (signs_in round stamps) i (Some false)) × AreApart round (set stamps k round)) (sym same)
    (set_second round stamps i apart below unset)
set_pair round stamps i false apart below unset =
    let same : double i + 0 ≡ double i = omega arith in
    subst (λ k. (signs_in round (set stamps k round) ≡ set (signs_in round stamps) i (Some true)) × AreApart round (set stamps k round)) (sym same)
    (set_first round stamps i apart below unset)

-- its other literal is the true one then
set_stamp : (round : ℕ) (stamps : List ℕ) (signs : List (Option Bool)) (l : Literal) → AreStamps round stamps → signs_in round stamps ≡ signs
    → is_of (length signs) l ≡ true → sign_of signs l ≡ None
    → (signs_in round (set stamps (code_of l - 2) round) ≡ set signs (l.variable - 1) (Some (not l.is_negated)))
    × AreApart round (set stamps (code_of l - 2) round)
set_stamp round stamps signs l kept shown named unset =
    let below = subst (λ s. index_of l < length s) (sym shown) (index_below signs l named) in
    let free = ap (λ s. get_or s (index_of l) None) shown ∙ unset in
    let pair = set_pair round stamps (index_of l) l.is_negated kept.apart below free in
    let here = sym (stamp_of l (length signs) named) in (
      ap (λ k. signs_in round (set stamps k round)) (sym here) ∙ pair.0 ∙ ap (λ s. set s (index_of l) (Some (not l.is_negated))) shown,
      subst (λ k. AreApart round (set stamps k round)) here pair.1,
    )

not_not : (b : Bool) → not (not b) ≡ b
not_not true = refl
not_not false = refl

pub one_more : (round : ℕ) (stamps : List ℕ) (signs : List (Option Bool)) (l : Literal) → AreStamps round stamps → signs_in round stamps ≡ signs
    → is_of (length signs) l ≡ true → sign_of signs l ≡ None
    → (signs_in round (set stamps (code_of (negation l) - 2) round) ≡ set signs (l.variable - 1) (Some l.is_negated))
    × AreApart round (set stamps (code_of (negation l) - 2) round)
one_more round stamps signs l kept shown named unset =
    let other = set_stamp round stamps signs (negation l) kept shown named unset in
    (other.0 ∙ ap (λ b. set signs (l.variable - 1) (Some b)) (not_not l.is_negated), other.1)

pub still_bound : (round : ℕ) (stamps : List ℕ) (index : ℕ) → All (λ stamp. stamp ≤ round) stamps → All (λ stamp. stamp ≤ round) (set stamps index round)
still_bound round stamps index bound = grind (arith, common_steps, bound)

-- ---- a new round

pub none_signed : (round : ℕ) (stamps : List ℕ) → All (λ stamp. stamp < round) stamps → signs_in round stamps ≡ replicate (length (signs_in round stamps)) None
none_signed round [] below = refl
none_signed round (p ∷ []) below = refl
none_signed round (p ∷ n ∷ stamps) below =
    let head = none_below round p n (below 0 p (omega arith)) (below 1 p (omega arith)) in
    let tail = none_signed round stamps (λ k d h. below (suc (suc k)) d (omega (arith, h))) in cc

pub apart_below : (round : ℕ) (stamps : List ℕ) → All (λ stamp. stamp < round) stamps → AreApart round stamps
apart_below round [] below = tt
apart_below round (p ∷ []) below = tt
apart_below round (p ∷ n ∷ stamps) below =
    (let first = below 0 p (omega arith) in λ e f. omega (arith, e, first), apart_below round stamps (λ k d h. below (suc (suc k)) d (omega (arith, h))))

pub stamps_below : (round : ℕ) (stamps : List ℕ) → All (λ stamp. stamp < round) stamps → AreStamps round stamps
stamps_below round stamps below = record {
  bound = λ k d h. omega (arith, below k d h);
  apart = apart_below round stamps below;
}

-- ---- at the start

zeros_below : (count : ℕ) → All (λ stamp. stamp < 1) (replicate count 0)
zeros_below count k d h = grind (arith, common_steps)

pub stamps_at_first : (stamps : List ℕ) (count : ℕ) → stamps ≡ replicate count 0 → AreStamps 1 stamps
stamps_at_first stamps count same = subst (AreStamps 1) (sym same) (stamps_below 1 (replicate count 0) (zeros_below count))

pub none_at_first : (stamps : List ℕ) (count variables : ℕ) → stamps ≡ replicate count 0 → count ≡ variables * 2 → signs_in 1 stamps ≡ replicate variables None
none_at_first stamps count variables same twice =
    ap (signs_in 1) same
    ∙ none_signed 1 (replicate count 0) (zeros_below count)
    ∙ ap (λ n. replicate n None) (length_signs 1 (replicate count 0) ∙ ap (λ n. n / 2) (length-replicate count 0) ∙ half)
  where
    half : count / 2 ≡ variables
    half = omega (arith, twice)
