-- Bits of words: those that come in from the top, and those past the last byte.
use Rattle.std.proofs.Common.{◌≡◌, ℕ, ◌-◌, ◌*◌, ◌/◌, ◌^◌, ◌<◌, ◌≤◌, arith, refl}
use Rattle.std.proofs.lemmas.Nat.{pow_pos}
use Rattle.std.proofs.lemmas.Nat.Bits.{ones_shr}
use Rattle.std.proofs.Math.Nat.{pow-le-pow_right, div-eq_of_lt}
use Rattle.term_core_spec.specs.Value.{low_bits}

pub ones_from_top : (w k ones : ℕ) → ones ≡ 2 ^ w - 1 → k < w → ones - ones / 2 ^ k ≡ 2 ^ w - 2 ^ (w - k)
ones_from_top w k ones e below =
    let le : k ≤ w = omega arith in
    rw e (omega (arith, ones_shr w k le, pow_pos (w - k)))

pub no_byte : (n place : ℕ) → n < 2 ^ 64 → 8 ≤ place → 0 ≡ low_bits 8 (n / 2 ^ (8 * place))
no_byte n place below past =
    let le : 64 ≤ 8 * place = omega arith in
    let more : 2 ^ 64 ≤ 2 ^ (8 * place) = pow-le-pow_right (omega arith) le in
    let none : n / 2 ^ (8 * place) ≡ 0 = div-eq_of_lt (omega (arith, more)) in
    rw none refl
