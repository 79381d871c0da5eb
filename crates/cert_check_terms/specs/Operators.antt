-- The operators of terms that the operators of a certificate are.
use Rattle.std.specs.Prelude.{ℕ, ◌==◌, nat_lt, Bool, true, false, if◌then◌else◌, Option, Some, None, option_map}
use Rattle.term_core_spec.specs.declared.Width.{Width}
use Rattle.term_core_spec.specs.declared.Width.TheVariants.{W8, W16, W32, W64}
use Rattle.term_core_spec.specs.declared.UnaryOperator.{UnaryOperator}
use Rattle.term_core_spec.specs.declared.UnaryOperator.TheVariants as unary
use Rattle.term_core_spec.specs.declared.WordOperator.{WordOperator}
use Rattle.term_core_spec.specs.declared.WordOperator.TheVariants as word
use Rattle.term_core_spec.specs.declared.BinaryOperator.{BinaryOperator}
use Rattle.term_core_spec.specs.declared.BinaryOperator.TheVariants as binary
use Rattle.cert_text_spec.specs.declared.Operator.{Operator}
use Rattle.cert_text_spec.specs.declared.Operator.TheVariants as operator

-- the width of so many bits
abbrev pub width_of : ℕ → Option Width
width_of bits =
    if bits == 8 then Some W8
    else (if bits == 16 then Some W16 else (if bits == 32 then Some W32 else (if bits == 64 then Some W64 else None)))

-- one with one argument; no word has more than eight bytes
abbrev pub unary_of : Operator → Option UnaryOperator
unary_of operator.Not = Some unary.Not
unary_of operator.Complement = Some unary.Complement
unary_of (operator.ZeroExtend bits) = option_map unary.ZeroExtend (width_of bits)
unary_of (operator.SignExtend bits) = option_map unary.SignExtend (width_of bits)
unary_of (operator.Low bits) = option_map unary.Low (width_of bits)
unary_of (operator.Byte place) = if nat_lt place 8 then Some (unary.Byte place) else None
unary_of o = None

-- one with two: on words, and another
abbrev pub operation_of : Operator → Option WordOperator
operation_of operator.Add = Some word.Add
operation_of operator.Subtract = Some word.Subtract
operation_of operator.Multiply = Some word.Multiply
operation_of operator.BitAnd = Some word.And
operation_of operator.BitOr = Some word.Or
operation_of operator.BitXor = Some word.Xor
operation_of operator.ShiftLeft = Some word.ShiftLeft
operation_of operator.ShiftRight = Some word.ShiftRight
operation_of operator.ShiftRightSigned = Some word.ShiftRightSigned
operation_of operator.Divide = Some word.Divide
operation_of operator.Remainder = Some word.Remainder
operation_of o = None

abbrev pub on_words : Operator → Option BinaryOperator
on_words o = option_map binary.Word (operation_of o)

abbrev pub binary_of : Operator → Option BinaryOperator
binary_of operator.Equal = Some binary.Equal
binary_of operator.Less = Some binary.Less
binary_of operator.And = Some binary.And
binary_of operator.Or = Some binary.Or
binary_of operator.Load = Some binary.Load
binary_of operator.Join = Some binary.Join
binary_of o = on_words o

-- those with three, and with four or eight
abbrev pub is_choose : Operator → Bool
is_choose operator.Choose = true
is_choose o = false

abbrev pub is_join : Operator → Bool
is_join operator.Join = true
is_join o = false
