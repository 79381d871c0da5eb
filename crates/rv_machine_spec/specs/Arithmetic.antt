-- The operations on words: the RISC-V unprivileged specification, "Integer Computational Instructions", "Conditional
-- Branches" and "M Extension".
use Rattle.std.specs.Prelude.{ℕ, ◌+◌, ◌-◌, ◌*◌, ◌/◌, ◌%◌, ◌^◌, Bool, ◌==◌, not, nat_lt, if◌then◌else◌, ℤ, pos, negsuc, ◌*ℤ◌, int_lt, int_div, int_rem, bit_and, bit_or, bit_xor}
use Rattle.std.specs.Int.{int_shr}
use Rattle.rv_instr.specs.Instr.{signed}
use Rattle.rv_instr.specs.declared.BranchTest.{BranchTest}
use Rattle.rv_instr.specs.declared.BranchTest.TheVariants.{Equal, NotEqual, Less, GreaterOrEqual, LessUnsigned, GreaterOrEqualUnsigned}
use Rattle.rv_instr.specs.declared.ArithmeticOperation.{ArithmeticOperation}
use Rattle.rv_instr.specs.declared.ArithmeticOperation.TheVariants.{Add, Subtract, ShiftLeft, SetLess, SetLessUnsigned, Xor, ShiftRightLogical, ShiftRightArithmetic, Or, And, Multiply, MultiplyHigh, MultiplyHighSignedUnsigned, MultiplyHighUnsigned, Divide, DivideUnsigned, Remainder, RemainderUnsigned}
use Rattle.rv_instr.specs.declared.ImmediateOperation.{ImmediateOperation}
use Rattle.rv_instr.specs.declared.ImmediateOperation.TheVariants as immediate
use Rattle.rv_instr.specs.declared.ShiftOperation.{ShiftOperation}
use Rattle.rv_instr.specs.declared.ShiftOperation.TheVariants.{Left, RightLogical, RightArithmetic}

-- the low 32 bits of a number in two's complement
abbrev pub word : ℤ → ℕ
word (pos n) = n % 2 ^ 32
word (negsuc n) = 2 ^ 32 - 1 - n % 2 ^ 32

-- bits 63 to 32 of a number in two's complement
abbrev pub high_word : ℤ → ℕ
high_word z = word (int_shr z 32)

-- the low `count` bits n, sign extended to a word
abbrev pub extended : ℕ → ℕ → ℕ
extended count n = word (signed count n)

-- the number that a word is when it is taken as signed
abbrev pub number : ℕ → ℤ
number a = signed 32 a

abbrev pub truth : Bool → ℕ
truth b = if b then 1 else 0

-- shifts use the low five bits of b; a division by zero gives all bits set and a remainder by zero the dividend;
-- -2 ^ 31 by -1 gives -2 ^ 31 and 0
unfoldable pub arithmetic : ArithmeticOperation → ℕ → ℕ → ℕ
arithmetic Add a b = (a + b) % 2 ^ 32
arithmetic Subtract a b = (a + (2 ^ 32 - b)) % 2 ^ 32
arithmetic ShiftLeft a b = (a * 2 ^ (b % 32)) % 2 ^ 32
arithmetic SetLess a b = truth (int_lt (number a) (number b))
arithmetic SetLessUnsigned a b = truth (nat_lt a b)
arithmetic Xor a b = bit_xor a b
arithmetic ShiftRightLogical a b = a / 2 ^ (b % 32)
arithmetic ShiftRightArithmetic a b = word (int_shr (number a) (b % 32))
arithmetic Or a b = bit_or a b
arithmetic And a b = bit_and a b
arithmetic Multiply a b = (a * b) % 2 ^ 32
arithmetic MultiplyHigh a b = high_word (number a *ℤ number b)
arithmetic MultiplyHighSignedUnsigned a b = high_word (number a *ℤ pos b)
arithmetic MultiplyHighUnsigned a b = a * b / 2 ^ 32
arithmetic Divide a b = if b == 0 then 2 ^ 32 - 1 else word (int_div (number a) (number b))
arithmetic DivideUnsigned a b = if b == 0 then 2 ^ 32 - 1 else a / b
arithmetic Remainder a b = if b == 0 then a else word (int_rem (number a) (number b))
arithmetic RemainderUnsigned a b = if b == 0 then a else a % b

-- ADDI is ADD with the immediate as right operand, and so on
abbrev pub of_immediate : ImmediateOperation → ArithmeticOperation
of_immediate immediate.Add = Add
of_immediate immediate.SetLess = SetLess
of_immediate immediate.SetLessUnsigned = SetLessUnsigned
of_immediate immediate.Xor = Xor
of_immediate immediate.Or = Or
of_immediate immediate.And = And

-- SLLI is SLL with the amount as right operand, and so on
abbrev pub of_shift : ShiftOperation → ArithmeticOperation
of_shift Left = ShiftLeft
of_shift RightLogical = ShiftRightLogical
of_shift RightArithmetic = ShiftRightArithmetic

-- whether a branch is taken
unfoldable pub holds : BranchTest → ℕ → ℕ → Bool
holds Equal a b = a == b
holds NotEqual a b = not (a == b)
holds Less a b = int_lt (number a) (number b)
holds GreaterOrEqual a b = not (int_lt (number a) (number b))
holds LessUnsigned a b = nat_lt a b
holds GreaterOrEqualUnsigned a b = not (nat_lt a b)
