-- The numbers that adders and comparisons give.
use Rattle.std.proofs.Common.{◌≡◌, ◌<◌, ◌≤◌, ◌+◌, ◌-◌, ◌*◌, ◌/◌, ◌%◌, ◌^◌, ℕ, zero, suc, Bool, true, false, List, [], ◌∷◌, ◌++◌, length, map, refl, ap, sym, ◌∙◌, subst, arith}
use Rattle.std.specs.Prelude.{◌&&◌, ◌||◌, not, nat_le, nat_lt, if◌then◌else◌}
use Rattle.std.proofs.Math.Nat.{add-mul-mod_self_left, mod-eq_of_lt, div-add-mod, mod-lt, pow-suc, mod-one}
use Rattle.std.proofs.lemmas.Nat.{pow_pos}
use Rattle.std.proofs.lemmas.List.{length-map}
use Rattle.clause_check_spec.specs.declared.Literal.{Literal}
use Rattle.clause_check_spec.specs.Clause.{Valuation, holds, negation}
use Rattle.term_core_spec.specs.Value.{low_bits}
use Rattle.bit_blast_spec.specs.Gates.{Gate, Made, Build, literal_of, last_of}
use Rattle.bit_blast_spec.specs.Circuits.{Bits, one, sum_bits, difference_bits, carry_bit, less_bit}
use Rattle.bit_blast_laws.specs.Meaning.{digit, number_of, differ, majority, AllHold}
use Rattle.bit_blast_laws.proofs.Gates.{hold_parts, holds-negation}

-- ---- a full adder

-- the sum of three digits: what differs, and twice the majority
full_adder : (a b c : Bool) → digit (differ (differ a b) c) + 2 * digit (majority a b c) ≡ digit a + digit b + digit c
full_adder true true true = refl
full_adder true true false = refl
full_adder true false true = refl
full_adder true false false = refl
full_adder false true true = refl
full_adder false true false = refl
full_adder false false true = refl
full_adder false false false = refl

pub digit_small : (b : Bool) → digit b ≤ 1
digit_small true = omega arith
digit_small false = omega arith

-- a low digit stays below the bits that are cut off
by_parts : (p q r d m : ℕ) → d ≤ 1 → p * q + r ≡ m → r < p → d + 2 * r ≡ (d + 2 * m) % (p * 2)
by_parts p q r d m small split below =
    let whole : (d + 2 * r) + (p * 2) * q ≡ d + 2 * m = omega (arith, split) in
    sym (ap (λ n. n % (p * 2)) (sym whole) ∙ add-mul-mod_self_left (d + 2 * r) (p * 2) q ∙ mod-eq_of_lt (omega (arith, small, below)))

pub with_digit : (n m d : ℕ) → d ≤ 1 → d + 2 * (m % 2 ^ n) ≡ (d + 2 * m) % 2 ^ suc n
with_digit n m d small =
    by_parts (2 ^ n) (m / 2 ^ n) (m % 2 ^ n) d m small (div-add-mod m (2 ^ n)) (mod-lt m (pow_pos n))
    ∙ ap (λ p. (d + 2 * m) % p) (sym (pow-suc 2 n))

-- ---- the ripple-carry adder

nothing : (c : ℕ) → 0 ≡ (0 + 0 + c) % 2 ^ 0
nothing c = sym (mod-one (0 + 0 + c))

one_bit : (n dx dy dc bit carry x y rest : ℕ) → bit ≤ 1 → bit + 2 * carry ≡ dx + dy + dc → rest ≡ (x + y + carry) % 2 ^ n
    → bit + 2 * rest ≡ (dx + 2 * x + (dy + 2 * y) + dc) % 2 ^ suc n
one_bit n dx dy dc bit carry x y rest small add here =
    let whole : bit + 2 * (x + y + carry) ≡ dx + 2 * x + (dy + 2 * y) + dc = omega (arith, add) in
    ap (λ r. bit + 2 * r) here ∙ with_digit n (x + y + carry) bit small ∙ ap (λ m. m % 2 ^ suc n) whole

-- the digits of a full adder, where its three gates have their values
full_adder_holds : (a b c half bit carry : Bool) → half ≡ differ a b → bit ≡ differ half c → carry ≡ majority a b c
    → digit bit + 2 * digit carry ≡ digit a + digit b + digit c
full_adder_holds a b c half bit carry e f g =
    ap (λ d. digit d + 2 * digit carry) (f ∙ ap (λ h. differ h c) e) ∙ ap (λ d. digit (differ (differ a b) c) + 2 * digit d) g ∙ full_adder a b c

pub sum_holds : (values : Valuation) (xs ys : Bits) (carry : Literal) (last : ℕ) → length xs ≡ length ys
    → AllHold values last (sum_bits xs ys carry last).gates
    → number_of values (sum_bits xs ys carry last).out ≡ low_bits (length xs) (number_of values xs + number_of values ys + digit (holds values carry))
unfolding sum_bits
sum_holds values [] [] carry last same all = nothing (digit (holds values carry))
sum_holds values [] (y ∷ ys) carry last same all = absurd (omega (arith, same))
sum_holds values (x ∷ xs) [] carry last same all = absurd (omega (arith, same))
sum_holds values (x ∷ xs) (y ∷ ys) carry last same all =
    let rest = hold_parts values (last + 1 + 1 + 1) (sum_bits xs ys (literal_of (last + 1 + 1 + 1)) (last + 1 + 1 + 1)).gates [] all.1.1.1 in
    one_bit (length xs) (digit (holds values x)) (digit (holds values y)) (digit (holds values carry)) (digit (values (last + 1 + 1))) (digit (values (last + 1 + 1 + 1)))
    (number_of values xs) (number_of values ys) (number_of values (sum_bits xs ys (literal_of (last + 1 + 1 + 1)) (last + 1 + 1 + 1)).out)
    (digit_small (values (last + 1 + 1)))
    (full_adder_holds (holds values x) (holds values y) (holds values carry) (values (last + 1)) (values (last + 1 + 1)) (values (last + 1 + 1 + 1)) all.0 all.1.0 all.1.1.0)
    (sum_holds values xs ys (literal_of (last + 1 + 1 + 1)) (last + 1 + 1 + 1) (omega (arith, same)) rest.0)

pub sum_length : (xs ys : Bits) (carry : Literal) (last : ℕ) → length xs ≡ length ys → length (sum_bits xs ys carry last).out ≡ length xs
unfolding sum_bits
sum_length [] [] carry last same = refl
sum_length [] (y ∷ ys) carry last same = absurd (omega (arith, same))
sum_length (x ∷ xs) [] carry last same = absurd (omega (arith, same))
sum_length (x ∷ xs) (y ∷ ys) carry last same =
    ap (λ n. suc n) (sum_length xs ys (literal_of (last + 1 + 1 + 1)) (last + 1 + 1 + 1) (omega (arith, same)))

-- ---- the last carry

first_carry : (c : Bool) → c ≡ nat_le (2 ^ 0) (0 + 0 + digit c)
first_carry true = refl
first_carry false = refl

pub doubled : (p m bit s : ℕ) → bit ≤ 1 → bit + 2 * m ≡ s → nat_le p m ≡ nat_le (p * 2) s
doubled p m bit s small e = grind arith

one_carry : (n dx dy dc bit carry x y : ℕ) → bit ≤ 1 → bit + 2 * carry ≡ dx + dy + dc
    → nat_le (2 ^ n) (x + y + carry) ≡ nat_le (2 ^ suc n) (dx + 2 * x + (dy + 2 * y) + dc)
one_carry n dx dy dc bit carry x y small add =
    doubled (2 ^ n) (x + y + carry) bit (dx + 2 * x + (dy + 2 * y) + dc) small (omega (arith, add))
    ∙ ap (λ p. nat_le p (dx + 2 * x + (dy + 2 * y) + dc)) (sym (pow-suc 2 n))

pub carry_holds : (values : Valuation) (xs ys : Bits) (carry : Literal) (last : ℕ) → length xs ≡ length ys
    → AllHold values last (carry_bit xs ys carry last).gates
    → holds values (carry_bit xs ys carry last).out ≡ nat_le (2 ^ length xs) (number_of values xs + number_of values ys + digit (holds values carry))
unfolding carry_bit
carry_holds values [] [] carry last same all = first_carry (holds values carry)
carry_holds values [] (y ∷ ys) carry last same all = absurd (omega (arith, same))
carry_holds values (x ∷ xs) [] carry last same all = absurd (omega (arith, same))
carry_holds values (x ∷ xs) (y ∷ ys) carry last same all =
    carry_holds values xs ys (literal_of (last + 1)) (last + 1) (omega (arith, same)) all.1
    ∙ one_carry (length xs) (digit (holds values x)) (digit (holds values y)) (digit (holds values carry))
    (digit (differ (differ (holds values x) (holds values y)) (holds values carry))) (digit (values (last + 1))) (number_of values xs) (number_of values ys)
    (digit_small (differ (differ (holds values x) (holds values y)) (holds values carry)))
    (full_adder_holds (holds values x) (holds values y) (holds values carry) (differ (holds values x) (holds values y))
    (differ (differ (holds values x) (holds values y)) (holds values carry)) (values (last + 1)) refl refl all.0)

-- ---- complements, differences and comparison

pub below_width : (values : Valuation) (xs : Bits) → number_of values xs < 2 ^ length xs
below_width values [] = omega arith
below_width values (x ∷ xs) =
    let small = digit_small (holds values x) in let more = below_width values xs in
    subst (λ p. digit (holds values x) + 2 * number_of values xs < p) (sym (pow-suc 2 (length xs))) (omega (arith, small, more))

two_digits : (b : Bool) → digit b + digit (not b) ≡ 1
two_digits true = refl
two_digits false = refl

pub complemented : (values : Valuation) (xs : Bits) → number_of values xs + number_of values (map negation xs) + 1 ≡ 2 ^ length xs
complemented values [] = refl
complemented values (x ∷ xs) =
    let here : digit (holds values x) + digit (holds values (negation x)) ≡ 1 =
    ap (λ b. digit (holds values x) + digit b) (holds-negation values x) ∙ two_digits (holds values x)
    in
    let more = complemented values xs in
    sum_of (digit (holds values x)) (digit (holds values (negation x))) (number_of values xs) (number_of values (map negation xs)) (2 ^ length xs) here more
    ∙ sym (pow-suc 2 (length xs))
  where
    sum_of : (d e a b p : ℕ) → d + e ≡ 1 → a + b + 1 ≡ p → d + 2 * a + (e + 2 * b) + 1 ≡ p * 2
    sum_of d e a b p h k = omega (arith, h, k)

pub less_holds : (values : Valuation) (xs ys : Bits) (last : ℕ) → length xs ≡ length ys → values 1 ≡ true
    → AllHold values last (less_bit xs ys last).gates
    → holds values (less_bit xs ys last).out ≡ nat_lt (number_of values xs) (number_of values ys)
less_holds values xs ys last same truth all =
    let parts = hold_parts values last (carry_bit xs (map negation ys) one last).gates [] all in
    let long : length xs ≡ length (map negation ys) = same ∙ sym (length-map ys negation) in
    let carry = carry_holds values xs (map negation ys) one last long parts.0 in
    holds-negation values (carry_bit xs (map negation ys) one last).out
    ∙ ap not (carry ∙ ap (λ b. nat_le (2 ^ length xs) (number_of values xs + number_of values (map negation ys) + digit b)) truth)
    ∙ by_complement (2 ^ length xs) (number_of values xs) (number_of values ys) (number_of values (map negation ys))
    (complemented values ys ∙ ap (λ n. 2 ^ n) (sym same))
  where
    by_complement : (p x y z : ℕ) → y + z + 1 ≡ p → not (nat_le p (x + z + 1)) ≡ nat_lt x y
    by_complement p x y z e = grind arith

difference_of : (p x y z : ℕ) → y + z + 1 ≡ p → y < p → (x + z + 1) % p ≡ (x + (p - y % p)) % p
difference_of p x y z e below =
    let whole : x + z + 1 ≡ x + (p - y) = omega (arith, e) in
    ap (λ n. n % p) whole ∙ ap (λ n. (x + (p - n)) % p) (sym (mod-eq_of_lt below))

pub difference_holds : (values : Valuation) (xs ys : Bits) (last : ℕ) → length xs ≡ length ys → values 1 ≡ true
    → AllHold values last (difference_bits xs ys last).gates
    → number_of values (difference_bits xs ys last).out ≡ low_bits (length xs) (number_of values xs + (2 ^ length xs - low_bits (length xs) (number_of values ys)))
difference_holds values xs ys last same truth all =
    let long : length xs ≡ length (map negation ys) = same ∙ sym (length-map ys negation) in
    sum_holds values xs (map negation ys) one last long all
    ∙ ap (λ b. (number_of values xs + number_of values (map negation ys) + digit b) % 2 ^ length xs) truth
    ∙ difference_of (2 ^ length xs) (number_of values xs) (number_of values ys) (number_of values (map negation ys))
    (complemented values ys ∙ ap (λ n. 2 ^ n) (sym same)) (subst (λ n. number_of values ys < 2 ^ n) (sym same) (below_width values ys))
