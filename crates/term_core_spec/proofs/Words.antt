-- Operations on words stay below 2 ^ width.
use Rattle.std.proofs.Common.{ℕ, ◌+◌, ◌-◌, ◌*◌, ◌/◌, ◌%◌, ◌^◌, ◌<◌, ◌==◌, Bool, true, false, cond, arith}
use Rattle.std.specs.Prelude.{nat_lt}
use Rattle.std.proofs.Math.Nat.{div-le_self, mod-le}
use Rattle.std.proofs.lemmas.Nat.{pow_pos, mod_below, and_le_l, or_lt, xor_lt}
use Rattle.term_core_spec.specs.declared.WordOperator.{WordOperator}
use Rattle.term_core_spec.specs.declared.WordOperator.TheVariants as word
use Rattle.term_core_spec.specs.Value.{low_bits, is_negative, ones_if, shifted_with_sign, operation}

pub low_bits-below : (count a : ℕ) → low_bits count a < 2 ^ count
low_bits-below count a = mod_below a (2 ^ count) (pow_pos count)

pub cond-below : (b : Bool) (x y n : ℕ) → x < n → y < n → cond b x y < n
cond-below true x y n below_x below_y = below_x
cond-below false x y n below_x below_y = below_y

ones-below : (test : Bool) (count : ℕ) → ones_if test 0 count < 2 ^ count
ones-below true count = omega (arith, pow_pos count)
ones-below false count = pow_pos count

pub operation-below : (operator : WordOperator) (count a b : ℕ) → a < 2 ^ count → b < 2 ^ count → operation operator count a b < 2 ^ count
unfolding operation
operation-below word.Add count a b below_a below_b = low_bits-below count (a + b)
operation-below word.Subtract count a b below_a below_b = low_bits-below count (a + (2 ^ count - low_bits count b))
operation-below word.Multiply count a b below_a below_b = low_bits-below count (a * b)
operation-below word.And count a b below_a below_b = omega (arith, and_le_l a b)
operation-below word.Or count a b below_a below_b = or_lt count a b below_a below_b
operation-below word.Xor count a b below_a below_b = xor_lt count a b below_a below_b
operation-below word.ShiftLeft count a b below_a below_b =
    cond-below (nat_lt b count) (low_bits count (a * 2 ^ b)) 0 (2 ^ count) (low_bits-below count (a * 2 ^ b)) (pow_pos count)
operation-below word.ShiftRight count a b below_a below_b =
    cond-below (nat_lt b count) (a / 2 ^ b) 0 (2 ^ count) (omega (arith, div-le_self a (2 ^ b))) (pow_pos count)
operation-below word.ShiftRightSigned count a b below_a below_b =
    cond-below (nat_lt b count) (shifted_with_sign count a b) (ones_if (is_negative count a) 0 count) (2 ^ count) (low_bits-below count _) (ones-below (is_negative count a) count)
operation-below word.Divide count a b below_a below_b =
    cond-below (b == 0) (2 ^ count - 1) (a / b) (2 ^ count) (omega (arith, pow_pos count)) (omega (arith, div-le_self a b))
operation-below word.Remainder count a b below_a below_b =
    cond-below (b == 0) a (a % b) (2 ^ count) below_a (omega (arith, mod-le a b))
