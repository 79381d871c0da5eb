-- The numbers of words that are put together, cut and moved.
use Rattle.std.proofs.Common.{◌≡◌, ◌<◌, ◌≤◌, ◌+◌, ◌-◌, ◌*◌, ◌/◌, ◌%◌, ◌^◌, ℕ, zero, suc, Bool, true, false, [], ◌∷◌, ◌++◌, length, take, drop, replicate, refl, ap, sym, ◌∙◌, arith}
use Rattle.std.specs.Prelude.{not, if◌then◌else◌}
use Rattle.std.proofs.Math.Nat.{add-mul-mod_self_left, div-add-mod, pow-suc, mod-one, zero-mod, div-eq_of_lt}
use Rattle.std.proofs.lemmas.Nat.{pow_pos, shr-shr}
use Rattle.std.proofs.lemmas.List.{length-replicate, length-append}
use Rattle.clause_check_spec.specs.declared.Literal.{Literal}
use Rattle.clause_check_spec.specs.Clause.{Valuation, holds}
use Rattle.bit_blast_spec.specs.Circuits.{Bits, none, zeros, twice_as_wide}
use Rattle.bit_blast_laws.specs.Meaning.{digit, number_of}
use Rattle.bit_blast_laws.proofs.Adders.{with_digit, digit_small}

-- ---- numbers modulo another

pub sum_mod_first : (a b m : ℕ) → (a % m + b) % m ≡ (a + b) % m
sum_mod_first a b m =
    let split = div-add-mod a m in
    let whole : (a % m + b) + m * (a / m) ≡ a + b = omega (arith, split) in
    sym (ap (λ n. n % m) (sym whole) ∙ add-mul-mod_self_left (a % m + b) m (a / m))

-- ---- put together and cut

pub number-append : (values : Valuation) (xs ys : Bits) → number_of values (xs ++ ys) ≡ number_of values xs + 2 ^ length xs * number_of values ys
number-append values [] ys = omega arith
number-append values (x ∷ xs) ys =
    ap (λ n. digit (holds values x) + 2 * n) (number-append values xs ys)
    ∙ spread (digit (holds values x)) (number_of values xs) (2 ^ length xs) (number_of values ys)
    ∙ ap (λ p. digit (holds values x) + 2 * number_of values xs + p * number_of values ys) (sym (pow-suc 2 (length xs)))
  where
    spread : (d x p y : ℕ) → d + 2 * (x + p * y) ≡ d + 2 * x + p * 2 * y
    spread d x p y = omega arith

pub number-take : (values : Valuation) (count : ℕ) (xs : Bits) → number_of values (take count xs) ≡ number_of values xs % 2 ^ count
number-take values zero xs = sym (mod-one (number_of values xs))
number-take values (suc count) [] = sym (zero-mod (2 ^ suc count))
number-take values (suc count) (x ∷ xs) =
    ap (λ n. digit (holds values x) + 2 * n) (number-take values count xs) ∙ with_digit count (number_of values xs) (digit (holds values x)) (digit_small (holds values x))

half : (d n : ℕ) → d ≤ 1 → (d + 2 * n) / 2 ≡ n
half d n small = omega (arith, small)

pub number-drop : (values : Valuation) (count : ℕ) (xs : Bits) → number_of values (drop count xs) ≡ number_of values xs / 2 ^ count
number-drop values zero xs = sym (omega arith)
number-drop values (suc count) [] = sym (div-eq_of_lt (pow_pos (suc count)))
number-drop values (suc count) (x ∷ xs) =
    number-drop values count xs
    ∙ ap (λ n. n / 2 ^ count) (sym (half (digit (holds values x)) (number_of values xs) (digit_small (holds values x))))
    ∙ shr-shr (digit (holds values x) + 2 * number_of values xs) 1 count
    ∙ ap (λ n. (digit (holds values x) + 2 * number_of values xs) / 2 ^ n) (omega arith)

pub holds-none : (values : Valuation) → values 1 ≡ true → holds values none ≡ false
holds-none values truth = ap not truth

pub number-zeros : (values : Valuation) (count : ℕ) → values 1 ≡ true → number_of values (zeros count) ≡ 0
number-zeros values zero truth = refl
number-zeros values (suc count) truth =
    ap (λ b. digit b + 2 * number_of values (zeros count)) (holds-none values truth) ∙ ap (λ n. 0 + 2 * n) (number-zeros values count truth)

-- a bit at so high an index
one_more : (b : Bool) (p : ℕ) → 0 < p → digit b + 2 * (if b then p - 1 else 0) ≡ (if b then p * 2 - 1 else 0)
one_more true p positive = omega (arith, positive)
one_more false p positive = refl

pub number-replicate : (values : Valuation) (count : ℕ) (bit : Literal) → number_of values (replicate count bit) ≡ (if holds values bit then 2 ^ count - 1 else 0)
number-replicate values zero bit = none_at_all (holds values bit)
  where
    none_at_all : (b : Bool) → 0 ≡ (if b then 2 ^ 0 - 1 else 0)
    none_at_all true = refl
    none_at_all false = refl
number-replicate values (suc count) bit =
    ap (λ n. digit (holds values bit) + 2 * n) (number-replicate values count bit)
    ∙ one_more (holds values bit) (2 ^ count) (pow_pos count)
    ∙ ap (λ p. if holds values bit then p - 1 else 0) (sym (pow-suc 2 count))

pub number-twice : (values : Valuation) (xs : Bits) → values 1 ≡ true → number_of values (twice_as_wide xs) ≡ number_of values xs
number-twice values xs truth =
    number-append values xs (zeros (length xs)) ∙ ap (λ n. number_of values xs + 2 ^ length xs * n) (number-zeros values (length xs) truth)
    ∙ nothing_more (number_of values xs) (2 ^ length xs)
  where
    nothing_more : (n p : ℕ) → n + p * 0 ≡ n
    nothing_more n p = omega arith

pub length-twice : (xs : Bits) → length (twice_as_wide xs) ≡ length xs + length xs
length-twice xs = length-append xs (zeros (length xs)) ∙ ap (λ n. length xs + n) (length-replicate (length xs) none)
