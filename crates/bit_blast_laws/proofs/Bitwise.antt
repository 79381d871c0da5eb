-- What is done bit by bit, and folds.
use Rattle.std.proofs.Common.{◌≡◌, ◌<◌, ◌+◌, ◌-◌, ◌*◌, ◌^◌, ℕ, suc, Bool, true, false, [], ◌∷◌, ◌++◌, length, map, refl, ap, sym, ◌∙◌, arith}
use Rattle.std.specs.Prelude.{◌==◌, ◌&&◌, ◌||◌, not, if◌then◌else◌, bit_and, bit_or, bit_xor}
use Rattle.std.specs.List.{list_any, list_all}
use Rattle.std.proofs.lemmas.Nat.{and_block, or_block, xor_block}
use Rattle.clause_check_spec.specs.declared.Literal.{Literal}
use Rattle.clause_check_spec.specs.Clause.{Valuation, holds, negation}
use Rattle.bit_blast_spec.specs.Gates.{Build, literal_of, last_of}
use Rattle.bit_blast_spec.specs.Circuits.{Bits, and_gate, or_gate, xor_gate, mux_gate, each, each_two, fold_gates, and_all, or_all, choose_bits, equal_bits, and_each}
use Rattle.bit_blast_laws.specs.Meaning.{digit, number_of, differ, AllHold}
use Rattle.bit_blast_laws.proofs.Gates.{hold_parts, holds-negation}

-- ---- gates of two arguments

pub GateHolds : Valuation → (Literal → Literal → Build Literal) → (Bool → Bool → Bool) → Type 0
GateHolds values gate operation =
    (a b : Literal) (last : ℕ) → AllHold values last (gate a b last).gates → holds values (gate a b last).out ≡ operation (holds values a) (holds values b)

pub and_gate_holds : (values : Valuation) → GateHolds values and_gate ◌&&◌
unfolding GateHolds
and_gate_holds values a b last all = all.0

pub xor_gate_holds : (values : Valuation) → GateHolds values xor_gate differ
unfolding GateHolds
xor_gate_holds values a b last all = all.0

de_morgan : (a b : Bool) → not (not a && not b) ≡ (a || b)
de_morgan true b = refl
de_morgan false true = refl
de_morgan false false = refl

pub or_gate_holds : (values : Valuation) → GateHolds values or_gate ◌||◌
unfolding GateHolds
or_gate_holds values a b last all =
    ap not (all.0 ∙ ap (λ n. n && holds values (negation b)) (holds-negation values a) ∙ ap (λ n. not (holds values a) && n) (holds-negation values b))
    ∙ de_morgan (holds values a) (holds values b)

-- ---- bit by bit

-- each bit of the third has the value that the operation gives of the first two
pub Zips : Valuation → (Bool → Bool → Bool) → Bits → Bits → Bits → Type 0
Zips values operation [] [] [] = Unit {0}
Zips values operation (x ∷ xs) (y ∷ ys) (o ∷ os) = (holds values o ≡ operation (holds values x) (holds values y)) × Zips values operation xs ys os
Zips values operation xs ys os = ⊥

pub each_two_zips : (values : Valuation) (gate : Literal → Literal → Build Literal) (operation : Bool → Bool → Bool) → GateHolds values gate operation
    → (xs ys : Bits) (last : ℕ) → length xs ≡ length ys → AllHold values last (each_two gate xs ys last).gates
    → Zips values operation xs ys (each_two gate xs ys last).out
unfolding each_two GateHolds Zips
each_two_zips values gate operation gate_holds [] [] last same all = tt
each_two_zips values gate operation gate_holds [] (y ∷ ys) last same all = absurd (omega (arith, same))
each_two_zips values gate operation gate_holds (x ∷ xs) [] last same all = absurd (omega (arith, same))
each_two_zips values gate operation gate_holds (x ∷ xs) (y ∷ ys) last same all =
    let after = last_of last (gate x y last).gates in
    let parts = hold_parts values last (gate x y last).gates ((each_two gate xs ys after).gates ++ []) all in
    let rest = hold_parts values after (each_two gate xs ys after).gates [] parts.1 in
    (gate_holds x y last parts.0, each_two_zips values gate operation gate_holds xs ys after (omega (arith, same)) rest.0)

pub zips_number : (values : Valuation) (operation : Bool → Bool → Bool) (on : ℕ → ℕ → ℕ) → on 0 0 ≡ 0
    → ((a b : Bool) (x y : ℕ) → on (digit a + 2 * x) (digit b + 2 * y) ≡ digit (operation a b) + 2 * on x y)
    → (xs ys os : Bits) → Zips values operation xs ys os → number_of values os ≡ on (number_of values xs) (number_of values ys)
unfolding Zips
zips_number values operation on base block [] [] [] zips = sym base
zips_number values operation on base block (x ∷ xs) (y ∷ ys) (o ∷ os) zips =
    ap (λ b. digit b + 2 * number_of values os) zips.0
    ∙ ap (λ n. digit (operation (holds values x) (holds values y)) + 2 * n) (zips_number values operation on base block xs ys os zips.1)
    ∙ sym (block (holds values x) (holds values y) (number_of values xs) (number_of values ys))
zips_number values operation on base block [] [] (o ∷ os) zips = absurd zips
zips_number values operation on base block [] (y ∷ ys) os zips = absurd zips
zips_number values operation on base block (x ∷ xs) [] os zips = absurd zips
zips_number values operation on base block (x ∷ xs) (y ∷ ys) [] zips = absurd zips

reordered : (a b : Bool) (x y : ℕ) (on : ℕ → ℕ → ℕ) (c : Bool) → on (x * 2 ^ 1 + digit a) (y * 2 ^ 1 + digit b) ≡ on x y * 2 ^ 1 + digit c
    → on (digit a + 2 * x) (digit b + 2 * y) ≡ digit c + 2 * on x y
reordered a b x y on c e =
    let left : digit a + 2 * x ≡ x * 2 ^ 1 + digit a = omega arith in
    let right : digit b + 2 * y ≡ y * 2 ^ 1 + digit b = omega arith in
    let whole : on x y * 2 ^ 1 + digit c ≡ digit c + 2 * on x y = omega arith in
    ap (λ n. on n (digit b + 2 * y)) left ∙ ap (on (x * 2 ^ 1 + digit a)) right ∙ e ∙ whole

digit_below : (b : Bool) → digit b < 2 ^ 1
digit_below true = omega arith
digit_below false = omega arith

pub and_digit : (a b : Bool) → bit_and (digit a) (digit b) ≡ digit (a && b)
and_digit true true = refl
and_digit true false = refl
and_digit false true = refl
and_digit false false = refl

pub or_digit : (a b : Bool) → bit_or (digit a) (digit b) ≡ digit (a || b)
or_digit true true = refl
or_digit true false = refl
or_digit false true = refl
or_digit false false = refl

xor_digit : (a b : Bool) → bit_xor (digit a) (digit b) ≡ digit (differ a b)
xor_digit true true = refl
xor_digit true false = refl
xor_digit false true = refl
xor_digit false false = refl

pub and_bits : (a b : Bool) (x y : ℕ) → bit_and (digit a + 2 * x) (digit b + 2 * y) ≡ digit (a && b) + 2 * bit_and x y
and_bits a b x y =
    reordered a b x y bit_and (a && b)
    (and_block 1 x y (digit a) (digit b) (digit_below a) (digit_below b) ∙ ap (λ n. bit_and x y * 2 ^ 1 + n) (and_digit a b))

pub or_bits : (a b : Bool) (x y : ℕ) → bit_or (digit a + 2 * x) (digit b + 2 * y) ≡ digit (a || b) + 2 * bit_or x y
or_bits a b x y =
    reordered a b x y bit_or (a || b)
    (or_block 1 x y (digit a) (digit b) (digit_below a) (digit_below b) ∙ ap (λ n. bit_or x y * 2 ^ 1 + n) (or_digit a b))

pub xor_bits : (a b : Bool) (x y : ℕ) → bit_xor (digit a + 2 * x) (digit b + 2 * y) ≡ digit (differ a b) + 2 * bit_xor x y
xor_bits a b x y =
    reordered a b x y bit_xor (differ a b)
    (xor_block 1 x y (digit a) (digit b) (digit_below a) (digit_below b) ∙ ap (λ n. bit_xor x y * 2 ^ 1 + n) (xor_digit a b))

-- ---- choices

pub mux_gate_holds : (values : Valuation) (c : Literal) → GateHolds values (mux_gate c) (λ a b. if holds values c then a else b)
unfolding GateHolds
mux_gate_holds values c a b last all = all.0

chosen_bits : (c a b : Bool) (x y : ℕ) → (if c then digit a + 2 * x else digit b + 2 * y) ≡ digit (if c then a else b) + 2 * (if c then x else y)
chosen_bits true a b x y = refl
chosen_bits false a b x y = refl

same_either_way : (c : Bool) (n : ℕ) → (if c then n else n) ≡ n
same_either_way true n = refl
same_either_way false n = refl

pub chosen_number : (values : Valuation) (c : Literal) (xs ys : Bits) (last : ℕ) → length xs ≡ length ys → AllHold values last (choose_bits c xs ys last).gates
    → number_of values (choose_bits c xs ys last).out ≡ (if holds values c then number_of values xs else number_of values ys)
chosen_number values c xs ys last same all =
    zips_number values (λ a b. if holds values c then a else b) (λ x y. if holds values c then x else y) (same_either_way (holds values c) 0)
    (chosen_bits (holds values c)) xs ys (choose_bits c xs ys last).out
    (each_two_zips values (mux_gate c) (λ a b. if holds values c then a else b) (mux_gate_holds values c) xs ys last same all)

-- ---- one argument

pub each_number : (values : Valuation) (gate : Literal → Build Literal) (operation : Bool → Bool) (on : ℕ → ℕ) → on 0 ≡ 0
    → ((a : Bool) (x : ℕ) → on (digit a + 2 * x) ≡ digit (operation a) + 2 * on x)
    → ((a : Literal) (last : ℕ) → AllHold values last (gate a last).gates → holds values (gate a last).out ≡ operation (holds values a))
    → (xs : Bits) (last : ℕ) → AllHold values last (each gate xs last).gates → number_of values (each gate xs last).out ≡ on (number_of values xs)
unfolding each
each_number values gate operation on base block gate_holds [] last all = sym base
each_number values gate operation on base block gate_holds (x ∷ xs) last all =
    let after = last_of last (gate x last).gates in
    let parts = hold_parts values last (gate x last).gates ((each gate xs after).gates ++ []) all in
    let rest = hold_parts values after (each gate xs after).gates [] parts.1 in
    ap (λ b. digit b + 2 * number_of values (each gate xs after).out) (gate_holds x last parts.0)
    ∙ ap (λ n. digit (operation (holds values x)) + 2 * n) (each_number values gate operation on base block gate_holds xs after rest.0)
    ∙ sym (block (holds values x) (number_of values xs))

pub each_length : (gate : Literal → Build Literal) (xs : Bits) (last : ℕ) → length (each gate xs last).out ≡ length xs
unfolding each
each_length gate [] last = refl
each_length gate (x ∷ xs) last = ap (λ n. suc n) (each_length gate xs (last_of last (gate x last).gates))

masked : (b a : Bool) (x : ℕ) → (if b then digit a + 2 * x else 0) ≡ digit (a && b) + 2 * (if b then x else 0)
masked true true x = refl
masked true false x = refl
masked false true x = refl
masked false false x = refl

pub and_each_number : (values : Valuation) (xs : Bits) (bit : Literal) (last : ℕ) → AllHold values last (and_each xs bit last).gates
    → number_of values (and_each xs bit last).out ≡ (if holds values bit then number_of values xs else 0)
and_each_number values xs bit last all =
    each_number values (λ x. and_gate x bit) (λ a. a && holds values bit) (λ n. if holds values bit then n else 0) (same_either_way (holds values bit) 0)
    (masked (holds values bit)) (λ a last all. all.0) xs last all

-- ---- folds

pub and_fold : (values : Valuation) (so_far : Literal) (bits : Bits) (last : ℕ) → AllHold values last (fold_gates and_gate so_far bits last).gates
    → holds values (fold_gates and_gate so_far bits last).out ≡ (holds values so_far && list_all (holds values) bits)
unfolding fold_gates
and_fold values so_far [] last all = by_two (holds values so_far)
  where
    by_two : (a : Bool) → a ≡ (a && true)
    by_two true = refl
    by_two false = refl
and_fold values so_far (bit ∷ bits) last all =
    and_fold values (literal_of (last + 1)) bits (last + 1) all.1
    ∙ ap (λ b. b && list_all (holds values) bits) all.0
    ∙ grouped (holds values so_far) (holds values bit) (list_all (holds values) bits)
  where
    grouped : (a b c : Bool) → ((a && b) && c) ≡ (a && (b && c))
    grouped true b c = refl
    grouped false b c = refl

pub and_all_holds : (values : Valuation) (bits : Bits) (last : ℕ) → values 1 ≡ true → AllHold values last (and_all bits last).gates
    → holds values (and_all bits last).out ≡ list_all (holds values) bits
unfolding and_all
and_all_holds values [] last truth all = truth
and_all_holds values (bit ∷ bits) last truth all = and_fold values bit bits last all

pub or_fold : (values : Valuation) (so_far : Literal) (bits : Bits) (last : ℕ) → AllHold values last (fold_gates or_gate so_far bits last).gates
    → holds values (fold_gates or_gate so_far bits last).out ≡ (holds values so_far || list_any (holds values) bits)
unfolding fold_gates
or_fold values so_far [] last all = by_two (holds values so_far)
  where
    by_two : (a : Bool) → a ≡ (a || false)
    by_two true = refl
    by_two false = refl
or_fold values so_far (bit ∷ bits) last all =
    or_fold values (negation (literal_of (last + 1))) bits (last + 1) all.1
    ∙ ap (λ b. b || list_any (holds values) bits) (or_of values so_far bit last all.0)
    ∙ grouped (holds values so_far) (holds values bit) (list_any (holds values) bits)
  where
    or_of : (values : Valuation) (a b : Literal) (last : ℕ) → values (last + 1) ≡ (holds values (negation a) && holds values (negation b))
        → not (values (last + 1)) ≡ (holds values a || holds values b)
    or_of values a b last e =
        ap not (e ∙ ap (λ n. n && holds values (negation b)) (holds-negation values a) ∙ ap (λ n. not (holds values a) && n) (holds-negation values b))
        ∙ de_morgan (holds values a) (holds values b)

    grouped : (a b c : Bool) → ((a || b) || c) ≡ (a || (b || c))
    grouped true b c = refl
    grouped false b c = refl

pub or_all_holds : (values : Valuation) (bits : Bits) (last : ℕ) → values 1 ≡ true → AllHold values last (or_all bits last).gates
    → holds values (or_all bits last).out ≡ list_any (holds values) bits
unfolding or_all
or_all_holds values [] last truth all = ap not truth
or_all_holds values (bit ∷ bits) last truth all = or_fold values bit bits last all

-- ---- equality, and what is not 0

digits_alike : (a b : Bool) (x y : ℕ) → (not (differ a b) && (x == y)) ≡ (digit a + 2 * x == digit b + 2 * y)
digits_alike true true x y = grind arith
digits_alike true false x y = grind arith
digits_alike false true x y = grind arith
digits_alike false false x y = grind arith

unlike_none : (values : Valuation) (xs ys os : Bits) → Zips values differ xs ys os
    → list_all (holds values) (map negation os) ≡ (number_of values xs == number_of values ys)
unfolding Zips
unlike_none values [] [] [] zips = refl
unlike_none values (x ∷ xs) (y ∷ ys) (o ∷ os) zips =
    ap (λ b. b && list_all (holds values) (map negation os)) (holds-negation values o ∙ ap not zips.0)
    ∙ ap (λ b. not (differ (holds values x) (holds values y)) && b) (unlike_none values xs ys os zips.1)
    ∙ digits_alike (holds values x) (holds values y) (number_of values xs) (number_of values ys)
unlike_none values [] [] (o ∷ os) zips = absurd zips
unlike_none values [] (y ∷ ys) os zips = absurd zips
unlike_none values (x ∷ xs) [] os zips = absurd zips
unlike_none values (x ∷ xs) (y ∷ ys) [] zips = absurd zips

pub equal_holds : (values : Valuation) (xs ys : Bits) (last : ℕ) → length xs ≡ length ys → values 1 ≡ true → AllHold values last (equal_bits xs ys last).gates
    → holds values (equal_bits xs ys last).out ≡ (number_of values xs == number_of values ys)
unfolding equal_bits
equal_holds values xs ys last same truth all =
    let unlike = (each_two xor_gate xs ys last).out in
    let after = last_of last (each_two xor_gate xs ys last).gates in
    let parts = hold_parts values last (each_two xor_gate xs ys last).gates (and_all (map negation unlike) after).gates all in
    and_all_holds values (map negation unlike) after truth parts.1
    ∙ unlike_none values xs ys unlike (each_two_zips values xor_gate differ (xor_gate_holds values) xs ys last same parts.0)

pub some_digit : (values : Valuation) (xs : Bits) → list_any (holds values) xs ≡ not (number_of values xs == 0)
some_digit values [] = refl
some_digit values (x ∷ xs) =
    ap (λ b. holds values x || b) (some_digit values xs) ∙ either (holds values x) (number_of values xs)
  where
    either : (a : Bool) (n : ℕ) → (a || not (n == 0)) ≡ not (digit a + 2 * n == 0)
    either true n = grind arith
    either false n = grind arith
