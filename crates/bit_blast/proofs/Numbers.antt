-- Numbers of words in 64 bits.
use Rattle.std.proofs.Common.{◌≡◌, ◌<◌, ◌≤◌, ◌+◌, ◌*◌, ◌^◌, ◌%◌, ℕ, zero, suc, false, [], ◌∷◌, length, drop, get_or, refl, ap, sym, ◌∙◌, arith}
use Rattle.std.proofs.Math.Pow.{pow_mono}
use Rattle.clause_check_spec.specs.declared.Literal.{Literal}
use Rattle.clause_check_spec.specs.Clause.{Valuation, holds}
use Rattle.term_core_spec.specs.declared.Width.{Width}
use Rattle.term_core_spec.specs.declared.Width.TheVariants.{W8, W16, W32, W64}
use Rattle.term_core_spec.specs.Sort.{bits}
use Rattle.term_core_spec.specs.Value.{low_bits}
use Rattle.bit_blast_spec.specs.Circuits.{Bits}
use Rattle.bit_blast_laws.specs.Meaning.{digit, number_of}
use Rattle.bit_blast_laws.proofs.Adders.{below_width}

-- one bit more
pub number_step : (values : Valuation) (bit : Literal) (rest : Bits) (number : ℕ) → number ≡ number_of values rest % 2 ^ 64
    → (number * 2 % 2 ^ 64 + digit (holds values bit)) % 2 ^ 64 ≡ number_of values (bit ∷ rest) % 2 ^ 64
number_step values bit rest number e = step (digit (holds values bit)) (number_of values rest) number e
  where
    step : (d n x : ℕ) → x ≡ n % 2 ^ 64 → (x * 2 % 2 ^ 64 + d) % 2 ^ 64 ≡ (d + 2 * n) % 2 ^ 64
    step d n x same = omega arith

pub low_of : (w : Width) (n : ℕ) → low_bits (bits w) (n % 2 ^ 64) ≡ low_bits (bits w) n
low_of W8 n = omega arith
low_of W16 n = omega arith
low_of W32 n = omega arith
low_of W64 n = omega arith

-- the bits from an index on
pub bits_from : (xs : Bits) (index : ℕ) (d : Literal) → index < length xs → drop index xs ≡ get_or xs index d ∷ drop (index + 1) xs
bits_from [] index d below = absurd (omega arith)
bits_from (x ∷ xs) zero d below = refl
bits_from (x ∷ xs) (suc index) d below =
    let next : suc index + 1 ≡ suc (index + 1) = omega arith in
    bits_from xs index d (omega arith) ∙ ap (λ (n : ℕ). get_or xs index d ∷ drop n (x ∷ xs)) (sym next)

pub number_at : (values : Valuation) (xs : Bits) (bit : Literal) (index before : ℕ) (old new : ℕ) → index ≡ before + 1 → index ≤ length xs → bit ≡ get_or xs before bit
    → old ≡ number_of values (drop index xs) % 2 ^ 64 → new ≡ (old * 2 % 2 ^ 64 + digit (holds values bit)) % 2 ^ 64
    → new ≡ number_of values (drop before xs) % 2 ^ 64
number_at values xs bit index before old new e within here was made =
    let below : before < length xs = omega (arith, e) in
    made
    ∙ number_step values bit (drop (before + 1) xs) old (was ∙ ap (λ (n : ℕ). number_of values (drop n xs) % 2 ^ 64) e)
    ∙ ap (λ (list : Bits). number_of values list % 2 ^ 64) (ap (λ (b : Literal). b ∷ drop (before + 1) xs) here ∙ sym (bits_from xs before bit below))

-- a number of at most 32 bits
pub short_number : (values : Valuation) (xs : Bits) (n : ℕ) → n ≡ number_of values xs % 2 ^ 64 → length xs ≤ 32 → (n ≡ number_of values xs) × (n < 2 ^ 32)
short_number values xs n e short =
    let small : number_of values xs < 2 ^ 32 = omega (arith, below_width values xs, pow_mono {i = length xs} {j = 32} short) in
    (omega (arith, e, small), omega (arith, e, small))

pub low_byte : (values : Valuation) (xs : Bits) (n : ℕ) → n ≡ number_of values xs % 2 ^ 64 → n % 256 ≡ low_bits 8 (number_of values xs)
low_byte values xs n e = omega (arith, e)
