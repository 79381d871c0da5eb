-- The quotient and the remainder satisfy the claims of a division.
use Rattle.std.proofs.Common.{◌≡◌, ◌<◌, ◌+◌, ◌-◌, ◌*◌, ◌/◌, ◌%◌, ◌^◌, ℕ, zero, suc, Bool, true, false, List, [], ◌∷◌, ◌++◌, length, refl, ap, sym, ◌∙◌, subst, arith}
use Rattle.std.specs.Prelude.{◌==◌, ◌||◌, not, nat_lt, if◌then◌else◌}
use Rattle.std.proofs.Math.Nat.{mod-one, mod-lt, div-add-mod, pow-suc}
use Rattle.std.proofs.lemmas.Nat.{shr-shr, pow_pos}
use Rattle.clause_check_spec.specs.declared.Literal.{Literal}
use Rattle.clause_check_spec.specs.Clause.{Clause, Valuation, holds, satisfies_clause, negation}
use Rattle.term_core_spec.specs.declared.Width.{Width}
use Rattle.term_core_spec.specs.declared.WordOperator.TheVariants as word
use Rattle.term_core_spec.specs.Term.{Term}
use Rattle.term_core_spec.specs.Value.{Number, Assignment, value, operation}
use Rattle.bit_blast_spec.specs.Gates.{last_of, claims}
use Rattle.bit_blast_spec.specs.Circuits.{Bits, none, twice_as_wide, or_all, product_bits, sum_bits, equal_bits, less_bit, new_bits, without_divisor, division}
use Rattle.bit_blast_laws.specs.Meaning.{digit, number_of, AllHold}
use Rattle.bit_blast_laws.proofs.Gates.{holds-negation}
use Rattle.bit_blast_laws.proofs.Adders.{less_holds}
use Rattle.bit_blast_laws.proofs.Bitwise.{or_all_holds, some_digit, equal_holds}
use Rattle.bit_blast_laws.proofs.Widths.{number-twice, length-twice}
use Rattle.bit_blast_laws.proofs.Division.{whole_numbers}
use Rattle.bit_blast_laws.specs.Reads.{bit_of_value}
use Rattle.bit_blast_laws.proofs.Leaves.{one_more}
use Rattle.bit_blast_laws.proofs.Settled.{AllSettle}
use Rattle.bit_blast_laws.proofs.Every.{every_or_all, every_product, every_sum, every_equal, every_less}
use Rattle.bit_blast_laws.proofs.Bare.{IsNoClaim, bare, bare_hold, settled_parts, hold_both}

-- ---- bits by numbers

-- equal words have equal bits
pub same_head : (a b : Bool) (m n : ℕ) → digit a + 2 * m ≡ digit b + 2 * n → (a ≡ b) × (m ≡ n)
same_head true true m n e = (refl, omega (arith, e))
same_head true false m n e = absurd (omega (arith, e))
same_head false true m n e = absurd (omega (arith, e))
same_head false false m n e = (refl, omega (arith, e))

ones_head : (a : Bool) (m p : ℕ) → 0 < p → digit a + 2 * m ≡ p * 2 - 1 → (a ≡ true) × (m ≡ p - 1)
ones_head true m p some e = (refl, omega (arith, e, some))
ones_head false m p some e = absurd (omega (arith, e, some))

-- the bits of a term that settle
pub settled_number : (assignment : Assignment) (values : Valuation) (term : Term) (width : Width) (n index count last : ℕ) → value assignment term ≡ Number width n
    → AllSettle assignment values last (new_bits term index count last).gates
    → number_of values (new_bits term index count last).out ≡ n / 2 ^ index % 2 ^ count
unfolding new_bits
settled_number assignment values term width n index zero last is all = sym (mod-one (n / 2 ^ index))
settled_number assignment values term width n index (suc count) last is all =
    let rest = settled_parts assignment values (last + 1) (new_bits term (suc index) count (last + 1)).gates [] all.1 in
    let bit = all.0 ∙ ap (λ v. bit_of_value v index) is in
    let half : n / 2 ^ index / 2 ≡ n / 2 ^ suc index = shr-shr n index 1 ∙ ap (λ k. n / 2 ^ k) (omega arith) in
    ap (λ b. digit b + 2 * number_of values (new_bits term (suc index) count (last + 1)).out) bit
    ∙ one_more (n / 2 ^ index) count (number_of values (new_bits term (suc index) count (last + 1)).out)
    (settled_number assignment values term width n (suc index) count (last + 1) is rest.0 ∙ ap (λ m. m % 2 ^ count) (sym half))

-- ---- clauses that are satisfied

unfoldable pub AllSatisfied : Valuation → List Clause → Type 0
AllSatisfied values [] = Unit {0}
AllSatisfied values (clause ∷ clauses) = (satisfies_clause values clause ≡ true) × AllSatisfied values clauses

pub claims_hold : (values : Valuation) (last : ℕ) (clauses : List Clause) → AllSatisfied values clauses → AllHold values last (claims clauses)
unfolding AllSatisfied
claims_hold values last [] satisfied = tt
claims_hold values last (clause ∷ clauses) satisfied = (satisfied.0, claims_hold values last clauses satisfied.1)

pub by_first : (a b : Bool) → a ≡ true → (a || b) ≡ true
by_first true b e = refl
by_first false b e = cc

by_second : (a b : Bool) → b ≡ true → (a || (b || false)) ≡ true
by_second true b e = refl
by_second false true e = refl
by_second false false e = cc

first_rule : (r x : Bool) → r ≡ x → (not r || (x || false)) ≡ true
first_rule true true e = refl
first_rule true false e = cc
first_rule false x e = refl

second_rule : (r x : Bool) → r ≡ x → (r || (not x || false)) ≡ true
second_rule true x e = refl
second_rule false true e = cc
second_rule false false e = refl

after_first : (a b : Bool) → b ≡ true → (a || b) ≡ true
after_first true b e = refl
after_first false b e = e

-- where the divisor is not 0 these clauses say nothing
with_divisor : (values : Valuation) (n : Literal) (qs rs xs : Bits) → holds values n ≡ true → AllSatisfied values (without_divisor n qs rs xs)
unfolding AllSatisfied
with_divisor values n [] rs xs e = tt
with_divisor values n (q ∷ qs) [] xs e = tt
with_divisor values n (q ∷ qs) (r ∷ rs) [] e = tt
with_divisor values n (q ∷ qs) (r ∷ rs) (x ∷ xs) e =
    (by_first (holds values n) _ e, (by_first (holds values n) _ e, (by_first (holds values n) _ e, with_divisor values n qs rs xs e)))

by_zero_satisfied : (values : Valuation) (n : Literal) (qs rs xs : Bits) → number_of values qs ≡ 2 ^ length qs - 1 → length rs ≡ length xs
    → number_of values rs ≡ number_of values xs → AllSatisfied values (without_divisor n qs rs xs)
unfolding AllSatisfied
by_zero_satisfied values n [] rs xs e long f = tt
by_zero_satisfied values n (q ∷ qs) [] xs e long f = tt
by_zero_satisfied values n (q ∷ qs) (r ∷ rs) [] e long f = tt
by_zero_satisfied values n (q ∷ qs) (r ∷ rs) (x ∷ xs) e long f =
    let ones = ones_head (holds values q) (number_of values qs) (2 ^ length qs) (pow_pos (length qs)) (e ∙ ap (λ p. p - 1) (pow-suc 2 (length qs))) in
    let same = same_head (holds values r) (holds values x) (number_of values rs) (number_of values xs) f in (
      by_second (holds values n) (holds values q) ones.0,
      (
        after_first (holds values n) _ (ap (λ b. b || (holds values x || false)) (holds-negation values r) ∙ first_rule (holds values r) (holds values x) same.0),
        (
          after_first (holds values n) _ (ap (λ b. holds values r || (b || false)) (holds-negation values x) ∙ second_rule (holds values r) (holds values x) same.0),
          by_zero_satisfied values n qs rs xs ones.1 (omega (arith, long)) same.1,
        ),
      ),
    )

-- ---- the whole division

rules_satisfied : (values : Valuation) (n same less : Literal) (qs rs xs : Bits) (y : ℕ) (b : Bool) → (y == 0) ≡ b → holds values n ≡ not (y == 0) → length rs ≡ length xs
    → (b ≡ true → (number_of values qs ≡ 2 ^ length qs - 1) × (number_of values rs ≡ number_of values xs))
    → (b ≡ false → (holds values same ≡ true) × (holds values less ≡ true))
    → AllSatisfied values ((negation n ∷ same ∷ []) ∷ (negation n ∷ less ∷ []) ∷ without_divisor n qs rs xs)
unfolding AllSatisfied
rules_satisfied values n same less qs rs xs y true e f long zero_case other =
    let off : holds values (negation n) ≡ true = holds-negation values n ∙ ap not (f ∙ ap not e) in (
      by_first (holds values (negation n)) _ off,
      (
        by_first (holds values (negation n)) _ off,
        by_zero_satisfied values n qs rs xs (zero_case refl).0 long (zero_case refl).1,
      ),
    )
rules_satisfied values n same less qs rs xs y false e f long zero_case other =
    let on : holds values n ≡ true = f ∙ ap not e in (
      by_second (holds values (negation n)) (holds values same) (other refl).0,
      (
        by_second (holds values (negation n)) (holds values less) (other refl).1,
        with_divisor values n qs rs xs on,
      ),
    )

is_zero : (y : ℕ) → (y == 0) ≡ true → y ≡ 0
is_zero y e = grind arith

not_zero : (y : ℕ) → (y == 0) ≡ false → 0 < y
not_zero y e = grind arith

test_equal : (a b : ℕ) → a ≡ b → (a == b) ≡ true
test_equal a b e = grind arith

test_less : (a b : ℕ) → a < b → nat_lt a b ≡ true
test_less a b h = grind arith

pub division_settles : (assignment : Assignment) (values : Valuation) (qs rs xs ys : Bits) (last : ℕ) → values 1 ≡ true
    → length qs ≡ length xs → length rs ≡ length xs → length ys ≡ length xs
    → number_of values qs ≡ operation word.Divide (length xs) (number_of values xs) (number_of values ys)
    → number_of values rs ≡ operation word.Remainder (length xs) (number_of values xs) (number_of values ys)
    → AllSettle assignment values last (division qs rs xs ys last).gates → AllHold values last (division qs rs xs ys last).gates
unfolding division operation AllSatisfied
division_settles assignment values qs rs xs ys last truth long_q long_r long_y quotient rest all =
    let some = or_all ys last in
    let first = last_of last some.gates in
    let product = product_bits (twice_as_wide qs) (twice_as_wide ys) first in
    let second = last_of first product.gates in
    let sum = sum_bits product.out (twice_as_wide rs) none second in
    let third = last_of second sum.gates in
    let same = equal_bits sum.out (twice_as_wide xs) third in
    let fourth = last_of third same.gates in
    let less = less_bit rs ys fourth in
    let fifth = last_of fourth less.gates in
    let rules = (negation some.out ∷ same.out ∷ []) ∷ (negation some.out ∷ less.out ∷ []) ∷ without_divisor some.out qs rs xs in
    let p1 = settled_parts assignment values last some.gates (product.gates ++ (sum.gates ++ (same.gates ++ (less.gates ++ claims rules)))) all in
    let p2 = settled_parts assignment values first product.gates (sum.gates ++ (same.gates ++ (less.gates ++ claims rules))) p1.1 in
    let p3 = settled_parts assignment values second sum.gates (same.gates ++ (less.gates ++ claims rules)) p2.1 in
    let p4 = settled_parts assignment values third same.gates (less.gates ++ claims rules) p3.1 in
    let p5 = settled_parts assignment values fourth less.gates (claims rules) p4.1 in
    let s1 = bare_hold assignment values last some.gates (every_or_all IsNoClaim bare ys last) p1.0 in
    let s2 = bare_hold assignment values first product.gates (every_product IsNoClaim bare (twice_as_wide qs) (twice_as_wide ys) first) p2.0 in
    let s3 = bare_hold assignment values second sum.gates (every_sum IsNoClaim bare product.out (twice_as_wide rs) none second) p3.0 in
    let s4 = bare_hold assignment values third same.gates (every_equal IsNoClaim bare sum.out (twice_as_wide xs) third) p4.0 in
    let s5 = bare_hold assignment values fourth less.gates (every_less IsNoClaim bare rs ys fourth) p5.0 in
    let x = number_of values xs in
    let y = number_of values ys in
    let whole = whole_numbers values qs rs xs ys first second truth long_q long_r long_y s2 s3 in
    let wide_x = length-twice xs in
    let by_zero : (y == 0) ≡ true → (number_of values qs ≡ 2 ^ length qs - 1) × (number_of values rs ≡ x) =
    λ e. (quotient ∙ ap (λ b. if b then 2 ^ length xs - 1 else x / y) e ∙ ap (λ k. 2 ^ k - 1) (sym long_q), rest ∙ ap (λ b. if b then x else x % y) e)
    in
    let other : (y == 0) ≡ false → (holds values same.out ≡ true) × (holds values less.out ≡ true) =
    λ e.
    let q_is : number_of values qs ≡ x / y = quotient ∙ ap (λ b. if b then 2 ^ length xs - 1 else x / y) e in
    let r_is : number_of values rs ≡ x % y = rest ∙ ap (λ b. if b then x else x % y) e in
    let split = div-add-mod x y in
    let turned : x / y * y + x % y ≡ x = omega (arith, split) in
    let back : number_of values sum.out ≡ number_of values (twice_as_wide xs) =
    whole.0 ∙ ap (λ q. q * y + number_of values rs) q_is ∙ ap (λ r. x / y * y + r) r_is ∙ turned ∙ sym (number-twice values xs truth)
    in (
      equal_holds values sum.out (twice_as_wide xs) third (whole.1 ∙ sym wide_x) truth s4 ∙ test_equal (number_of values sum.out) (number_of values (twice_as_wide xs)) back,
      less_holds values rs ys fourth (long_r ∙ sym long_y) truth s5
          ∙ test_less (number_of values rs) y (subst (λ r. r < y) (sym r_is) (mod-lt x (not_zero y e))),
    )
    in
    let satisfied =
    rules_satisfied values some.out same.out less.out qs rs xs y (y == 0) refl (or_all_holds values ys last truth s1 ∙ some_digit values ys) long_r by_zero other
    in
    hold_both values last some.gates (product.gates ++ (sum.gates ++ (same.gates ++ (less.gates ++ claims rules)))) s1
    (hold_both values first product.gates (sum.gates ++ (same.gates ++ (less.gates ++ claims rules))) s2
    (hold_both values second sum.gates (same.gates ++ (less.gates ++ claims rules)) s3
    (hold_both values third same.gates (less.gates ++ claims rules) s4
    (hold_both values fourth less.gates (claims rules) s5 (claims_hold values fifth rules satisfied)))))
