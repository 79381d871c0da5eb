-- Bits by conversions.
use Rattle.std.proofs.Common.{◌≡◌, ℕ, ◌<◌, ap}
use Rattle.std.proofs.Math.Nat.{mod-eq_of_lt}
use Rattle.std.specs.Prelude.{ℤ, pos, ◌%◌, ◌^◌}
use Rattle.c_types_spec.specs.declared.Scalar.{Scalar}
use Rattle.c_types_spec.specs.Values.{of_bits, converted}

small : (N n : ℕ) → n < N → n % N ≡ n
small N n h = mod-eq_of_lt h

-- the value with some bits is the number that they are, converted
pub of_low_bits : (type : Scalar) (bits : ℕ) → bits < 2 ^ type.width → converted type (pos bits) ≡ of_bits type bits
unfolding converted
of_low_bits type bits h = ap (of_bits type) (small (2 ^ type.width) bits h)
