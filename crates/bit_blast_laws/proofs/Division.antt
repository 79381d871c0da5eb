-- The numbers that quotients and remainders give.
use Rattle.std.proofs.Common.{◌≡◌, ◌<◌, ◌≤◌, ◌+◌, ◌-◌, ◌*◌, ◌/◌, ◌%◌, ◌^◌, ℕ, zero, suc, Bool, true, false, List, [], ◌∷◌, ◌++◌, length, map, take, drop, replicate, refl, ap, sym, ◌∙◌, subst, arith}
use Rattle.std.specs.Prelude.{◌==◌, ◌&&◌, ◌||◌, not, nat_lt, if◌then◌else◌}
use Rattle.std.specs.List.{list_any, list_all}
use Rattle.std.proofs.Math.Nat.{mod-eq_of_lt, add-mul-mod_self_left, add-mul-div_left, div-eq_of_lt, mul-le-mul_left, pow-suc}
use Rattle.std.proofs.lemmas.Nat.{pow-add, pow_pos, mul-lt}
use Rattle.clause_check_spec.specs.declared.Literal.{Literal}
use Rattle.clause_check_spec.specs.Clause.{Clause, Valuation, holds, satisfies_clause, negation}
use Rattle.term_core_spec.specs.declared.WordOperator.TheVariants as word
use Rattle.term_core_spec.specs.Value.{operation}
use Rattle.bit_blast_spec.specs.Gates.{Gate, Claim, last_of, claims}
use Rattle.bit_blast_spec.specs.Circuits.{Bits, none, twice_as_wide, or_all, product_bits, sum_bits, equal_bits, less_bit, without_divisor, division}
use Rattle.bit_blast_laws.specs.Meaning.{digit, number_of, AllHold}
use Rattle.bit_blast_laws.proofs.Gates.{hold_parts, holds-negation}
use Rattle.bit_blast_laws.proofs.Adders.{below_width, sum_holds, sum_length, less_holds}
use Rattle.bit_blast_laws.proofs.Bitwise.{or_all_holds, some_digit, equal_holds}
use Rattle.bit_blast_laws.proofs.Widths.{number-twice, length-twice, holds-none}
use Rattle.bit_blast_laws.proofs.Rows.{product_holds, product_length}

-- ---- what clauses claim

-- each of these clauses is satisfied
pub AllSatisfied : Valuation → List Clause → Type 0
AllSatisfied values [] = Unit {0}
AllSatisfied values (clause ∷ clauses) = (satisfies_clause values clause ≡ true) × AllSatisfied values clauses

pub claims_satisfied : (values : Valuation) (last : ℕ) (clauses : List Clause) → AllHold values last (claims clauses) → AllSatisfied values clauses
unfolding AllSatisfied
claims_satisfied values last [] all = tt
claims_satisfied values last (clause ∷ clauses) all = (all.0, claims_satisfied values last clauses all.1)

implied : (a b : Bool) → (not a || (b || false)) ≡ true → a ≡ true → b ≡ true
implied true true e f = refl
implied true false e f = cc
implied false b e f = cc

-- a clause of a negation and a literal
pub by_clause : (values : Valuation) (n l : Literal) → satisfies_clause values (negation n ∷ l ∷ []) ≡ true → holds values n ≡ true → holds values l ≡ true
by_clause values n l satisfied here =
    implied (holds values n) (holds values l) (ap (λ b. b || (holds values l || false)) (sym (holds-negation values n)) ∙ satisfied) here

-- ---- where the divisor is 0

one_claim : (n q : Bool) → (n || (q || false)) ≡ true → n ≡ false → q ≡ true
one_claim true q e f = cc
one_claim false true e f = refl
one_claim false false e f = cc

two_claims : (n r x : Bool) → (n || (not r || (x || false))) ≡ true → (n || (r || (not x || false))) ≡ true → n ≡ false → r ≡ x
two_claims true r x e f g = cc
two_claims false true true e f g = refl
two_claims false true false e f g = cc
two_claims false false true e f g = cc
two_claims false false false e f g = refl

all_ones : (p : ℕ) → 0 < p → 1 + 2 * (p - 1) ≡ p * 2 - 1
all_ones p some = omega (arith, some)

pub by_zero : (values : Valuation) (n : Literal) (qs rs xs : Bits) → length rs ≡ length xs → length qs ≡ length xs → holds values n ≡ false
    → AllSatisfied values (without_divisor n qs rs xs)
    → (number_of values qs ≡ 2 ^ length xs - 1) × (number_of values rs ≡ number_of values xs)
unfolding AllSatisfied
by_zero values n [] [] [] same also without satisfied = (refl, refl)
by_zero values n (q ∷ qs) (r ∷ rs) (x ∷ xs) same also without satisfied =
    let more = by_zero values n qs rs xs (omega (arith, same)) (omega (arith, also)) without satisfied.1.1.1 in
    let one = one_claim (holds values n) (holds values q) satisfied.0 without in
    let first = ap (λ b. holds values n || (b || (holds values x || false))) (sym (holds-negation values r)) ∙ satisfied.1.0 in
    let second = ap (λ b. holds values n || (holds values r || (b || false))) (sym (holds-negation values x)) ∙ satisfied.1.1.0 in (
      ap (λ b. digit b + 2 * number_of values qs) one ∙ ap (λ m. 1 + 2 * m) more.0 ∙ all_ones (2 ^ length xs) (pow_pos (length xs))
          ∙ ap (λ p. p - 1) (sym (pow-suc 2 (length xs))),
      ap (λ b. digit b + 2 * number_of values rs) (two_claims (holds values n) (holds values r) (holds values x) first second without)
          ∙ ap (λ m. digit (holds values x) + 2 * m) more.1,
    )
by_zero values n [] [] (x ∷ xs) same also without satisfied = absurd (omega (arith, same))
by_zero values n [] (r ∷ rs) [] same also without satisfied = absurd (omega (arith, same))
by_zero values n [] (r ∷ rs) (x ∷ xs) same also without satisfied = absurd (omega (arith, also))
by_zero values n (q ∷ qs) [] [] same also without satisfied = absurd (omega (arith, also))
by_zero values n (q ∷ qs) [] (x ∷ xs) same also without satisfied = absurd (omega (arith, same))
by_zero values n (q ∷ qs) (r ∷ rs) [] same also without satisfied = absurd (omega (arith, same))

-- ---- where it is not

-- a product of words and a further word fit into twice the width
fits : (q y r p : ℕ) → q < p → y < p → r < p → q * y + r < p * p
fits q y r p h k l =
    let more : q * y ≤ q * p = mul-le-mul_left q (less_than y p k) in
    let all : suc q * p ≤ p * p = times_more (suc q) p p h in
    omega (arith, more, all, l)
  where
    less_than : (a b : ℕ) → a < b → a ≤ b
    less_than a b h = omega (arith, h)

    times_more : (a b p : ℕ) → a ≤ b → a * p ≤ b * p
    times_more a b p h = let e = mul-le-mul_left p h in omega (arith, e)

by_test : (a b : ℕ) → (a == b) ≡ true → a ≡ b
by_test a b e = grind arith

by_less : (a b : ℕ) → nat_lt a b ≡ true → a < b
by_less a b e = grind arith

divided_by : (x y q r : ℕ) → q * y + r ≡ x → r < y → (q ≡ x / y) × (r ≡ x % y)
divided_by x y q r e below =
    let some : 0 < y = omega (arith, below) in
    let whole : x ≡ r + y * q = omega (arith, e) in
    let none : r / y ≡ 0 = div-eq_of_lt below in (
      sym (ap (λ n. n / y) whole ∙ add-mul-div_left r q some ∙ ap (λ n. n + q) none ∙ plain q),
      sym (ap (λ n. n % y) whole ∙ add-mul-mod_self_left r y q ∙ mod-eq_of_lt below),
    )
  where
    plain : (n : ℕ) → 0 + n ≡ n
    plain n = omega arith

-- what the gates of a division say
pub record Divides (values : Valuation) (qs rs xs ys : Bits) : Type 0 where
  pub quotient : number_of values qs ≡ operation word.Divide (length xs) (number_of values xs) (number_of values ys)
  pub remainder : number_of values rs ≡ operation word.Remainder (length xs) (number_of values xs) (number_of values ys)

by_divisor : (b : Bool) (q r x y ones : ℕ) → (y == 0) ≡ b
    → (b ≡ true → (q ≡ ones) × (r ≡ x)) → (b ≡ false → (q ≡ x / y) × (r ≡ x % y))
    → (q ≡ (if y == 0 then ones else x / y)) × (r ≡ (if y == 0 then x else x % y))
by_divisor true q r x y ones e without with =
    ((without refl).0 ∙ ap (λ b. if b then ones else x / y) (sym e), (without refl).1 ∙ ap (λ b. if b then x else x % y) (sym e))
by_divisor false q r x y ones e without with =
    ((with refl).0 ∙ ap (λ b. if b then ones else x / y) (sym e), (with refl).1 ∙ ap (λ b. if b then x else x % y) (sym e))

-- in twice the width nothing is cut off
pub whole_numbers : (values : Valuation) (qs rs xs ys : Bits) (first second : ℕ) → values 1 ≡ true
    → length qs ≡ length xs → length rs ≡ length xs → length ys ≡ length xs
    → AllHold values first (product_bits (twice_as_wide qs) (twice_as_wide ys) first).gates
    → AllHold values second (sum_bits (product_bits (twice_as_wide qs) (twice_as_wide ys) first).out (twice_as_wide rs) none second).gates
    → (number_of values (sum_bits (product_bits (twice_as_wide qs) (twice_as_wide ys) first).out (twice_as_wide rs) none second).out
    ≡ number_of values qs * number_of values ys + number_of values rs)
    × (length (sum_bits (product_bits (twice_as_wide qs) (twice_as_wide ys) first).out (twice_as_wide rs) none second).out ≡ length xs + length xs)
whole_numbers values qs rs xs ys first second truth long_q long_r long_y product sum =
    let wide_q : length (twice_as_wide qs) ≡ length xs + length xs = (let e = length-twice qs in omega (arith, e, long_q)) in
    let wide_y : length (twice_as_wide ys) ≡ length xs + length xs = (let e = length-twice ys in omega (arith, e, long_y)) in
    let wide_r : length (twice_as_wide rs) ≡ length xs + length xs = (let e = length-twice rs in omega (arith, e, long_r)) in
    let made = product_bits (twice_as_wide qs) (twice_as_wide ys) first in
    let long = product_length (twice_as_wide qs) (twice_as_wide ys) first (wide_y ∙ sym wide_q) ∙ wide_q in
    let q = number_of values qs in let y = number_of values ys in let r = number_of values rs in
    let m = 2 ^ (length xs + length xs) in
    let small : q * y + r < m =
    subst (λ p. q * y + r < p) (sym (pow-add 2 (length xs) (length xs)))
    (fits q y r (2 ^ length xs) (subst (λ n. q < 2 ^ n) long_q (below_width values qs)) (subst (λ n. y < 2 ^ n) long_y (below_width values ys))
    (subst (λ n. r < 2 ^ n) long_r (below_width values rs)))
    in
    let number : number_of values made.out ≡ q * y =
    product_holds values (twice_as_wide qs) (twice_as_wide ys) first truth (wide_y ∙ sym wide_q) product
    ∙ ap (λ n. (n * number_of values (twice_as_wide ys)) % 2 ^ length (twice_as_wide qs)) (number-twice values qs truth)
    ∙ ap (λ n. (q * n) % 2 ^ length (twice_as_wide qs)) (number-twice values ys truth)
    ∙ ap (λ n. (q * y) % 2 ^ n) wide_q
    ∙ mod-eq_of_lt (omega (arith, small))
    in (
      sum_holds values made.out (twice_as_wide rs) none second (long ∙ sym wide_r) sum
          ∙ ap (λ b. (number_of values made.out + number_of values (twice_as_wide rs) + digit b) % 2 ^ length made.out) (holds-none values truth)
          ∙ ap (λ n. (n + number_of values (twice_as_wide rs) + 0) % 2 ^ length made.out) number
          ∙ ap (λ n. (q * y + n + 0) % 2 ^ length made.out) (number-twice values rs truth)
          ∙ ap (λ n. n % 2 ^ length made.out) (plain (q * y + r))
          ∙ ap (λ n. (q * y + r) % 2 ^ n) long
          ∙ mod-eq_of_lt small,
      sum_length made.out (twice_as_wide rs) none second (long ∙ sym wide_r) ∙ long,
    )
  where
    plain : (n : ℕ) → n + 0 ≡ n
    plain n = omega arith

pub division_holds : (values : Valuation) (qs rs xs ys : Bits) (last : ℕ) → values 1 ≡ true
    → length qs ≡ length xs → length rs ≡ length xs → length ys ≡ length xs
    → AllHold values last (division qs rs xs ys last).gates → Divides values qs rs xs ys
unfolding division operation AllSatisfied
division_holds values qs rs xs ys last truth long_q long_r long_y all =
    let some = or_all ys last in
    let first = last_of last some.gates in
    let product = product_bits (twice_as_wide qs) (twice_as_wide ys) first in
    let second = last_of first product.gates in
    let sum = sum_bits product.out (twice_as_wide rs) none second in
    let third = last_of second sum.gates in
    let same = equal_bits sum.out (twice_as_wide xs) third in
    let fourth = last_of third same.gates in
    let less = less_bit rs ys fourth in
    let fifth = last_of fourth less.gates in
    let rules = (negation some.out ∷ same.out ∷ []) ∷ (negation some.out ∷ less.out ∷ []) ∷ without_divisor some.out qs rs xs in
    let one = hold_parts values last some.gates (product.gates ++ (sum.gates ++ (same.gates ++ (less.gates ++ claims rules)))) all in
    let two = hold_parts values first product.gates (sum.gates ++ (same.gates ++ (less.gates ++ claims rules))) one.1 in
    let three = hold_parts values second sum.gates (same.gates ++ (less.gates ++ claims rules)) two.1 in
    let four = hold_parts values third same.gates (less.gates ++ claims rules) three.1 in
    let five = hold_parts values fourth less.gates (claims rules) four.1 in
    let satisfied = claims_satisfied values fifth rules five.1 in
    let x = number_of values xs in let y = number_of values ys in
    let nonzero : holds values some.out ≡ not (y == 0) = or_all_holds values ys last truth one.0 ∙ some_digit values ys in
    let whole = whole_numbers values qs rs xs ys first second truth long_q long_r long_y two.0 three.0 in
    let wide_x = length-twice xs in
    let answers =
    by_divisor (y == 0) (number_of values qs) (number_of values rs) x y (2 ^ length xs - 1) refl
    (λ e. by_zero values some.out qs rs xs long_r long_q (nonzero ∙ ap not e) satisfied.1.1)
    (λ e.
    let here : holds values some.out ≡ true = nonzero ∙ ap not e in
    let alike = by_test (number_of values sum.out) (number_of values (twice_as_wide xs))
    (sym (equal_holds values sum.out (twice_as_wide xs) third (whole.1 ∙ sym wide_x) truth four.0) ∙ by_clause values some.out same.out satisfied.0 here)
    in
    let below = by_less (number_of values rs) y
    (sym (less_holds values rs ys fourth (long_r ∙ sym long_y) truth five.0) ∙ by_clause values some.out less.out satisfied.1.0 here)
    in
    divided_by x y (number_of values qs) (number_of values rs) (sym whole.0 ∙ alike ∙ number-twice values xs truth) below)
    in
    record { quotient = answers.0; remainder = answers.1 }
