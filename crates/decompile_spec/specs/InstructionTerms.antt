-- The terms of each instruction: the RISC-V unprivileged specification, chapters "RV32I Base Integer
-- Instruction Set" and "M Extension". Each instruction has one shape, of at most 256 operators beside its operands.
use Rattle.std.specs.Prelude.{ℕ, ◌+◌, ◌-◌, ◌*◌, ◌%◌, ◌^◌, ◌==◌, false, if◌then◌else◌, ℤ, List, [], ◌∷◌, ◌++◌, length, map}
use Rattle.rv_instr.specs.declared.BranchTest.{BranchTest}
use Rattle.rv_instr.specs.declared.BranchTest.TheVariants as branch
use Rattle.rv_instr.specs.declared.LoadKind.{LoadKind}
use Rattle.rv_instr.specs.declared.LoadKind.TheVariants as load_kind
use Rattle.rv_instr.specs.declared.StoreKind.{StoreKind}
use Rattle.rv_instr.specs.declared.StoreKind.TheVariants as store_kind
use Rattle.rv_instr.specs.declared.ArithmeticOperation.{ArithmeticOperation}
use Rattle.rv_instr.specs.declared.ArithmeticOperation.TheVariants as arithmetic
use Rattle.rv_instr.specs.declared.Instr.{Instr}
use Rattle.rv_instr.specs.declared.Instr.TheVariants as instr
use Rattle.rv_machine_spec.specs.Arithmetic.{word, of_immediate, of_shift}
use Rattle.rv_machine_spec.specs.Machine as machine
use Rattle.memory_spec.specs.Runs.{Run}
use Rattle.term_core_spec.specs.declared.Width.TheVariants.{W32}
use Rattle.term_core_spec.specs.Term.{Term, truth, constant, open_term, not_term, or_term, equal, less, add, subtract, multiply, bit_and, bit_or, bit_xor, shift_left, shift_right, shift_right_signed, divide, remainder, zero_extend, sign_extend, load, choose}
use Rattle.term_core_spec.specs.Shapes.{signed_less, signed_quotient, signed_remainder, high_product, high_product_signed, high_product_signed_unsigned, past, load_half, load_word, store_byte, store_half, store_word}
use Rattle.graph_core_spec.specs.Graph.{Binding}
use Rattle.decompile_spec.specs.State.{register, entry_register, memory}

-- ---- operands

abbrev pub number : ℕ → Term
number n = constant W32 n

-- x0 is 0 and no variable
abbrev pub operand : ℕ → Term
operand r = if r == 0 then number 0 else open_term (register r)

-- the address x[base] + offset
abbrev pub address : ℕ → ℤ → Term
address base offset = add (operand base) (number (word offset))

-- ---- computation

-- shifts use the low five bits of y
abbrev pub places : Term → Term
places y = bit_and y (number 31)

-- 1 where the test holds, else 0
abbrev pub set_if : Term → Term
set_if test = choose test (number 1) (number 0)

unfoldable pub computed : ArithmeticOperation → Term → Term → Term
computed arithmetic.Add x y = add x y
computed arithmetic.Subtract x y = subtract x y
computed arithmetic.ShiftLeft x y = shift_left x (places y)
computed arithmetic.SetLess x y = set_if (signed_less W32 x y)
computed arithmetic.SetLessUnsigned x y = set_if (less x y)
computed arithmetic.Xor x y = bit_xor x y
computed arithmetic.ShiftRightLogical x y = shift_right x (places y)
computed arithmetic.ShiftRightArithmetic x y = shift_right_signed x (places y)
computed arithmetic.Or x y = bit_or x y
computed arithmetic.And x y = bit_and x y
computed arithmetic.Multiply x y = multiply x y
computed arithmetic.MultiplyHigh x y = high_product_signed x y
computed arithmetic.MultiplyHighSignedUnsigned x y = high_product_signed_unsigned x y
computed arithmetic.MultiplyHighUnsigned x y = high_product x y
computed arithmetic.Divide x y = signed_quotient x y
computed arithmetic.DivideUnsigned x y = divide x y
computed arithmetic.Remainder x y = signed_remainder x y
computed arithmetic.RemainderUnsigned x y = remainder x y

-- whether a branch is taken
unfoldable pub taken : BranchTest → Term → Term → Term
taken branch.Equal x y = equal x y
taken branch.NotEqual x y = not_term (equal x y)
taken branch.Less x y = signed_less W32 x y
taken branch.GreaterOrEqual x y = not_term (signed_less W32 x y)
taken branch.LessUnsigned x y = less x y
taken branch.GreaterOrEqualUnsigned x y = not_term (less x y)

-- ---- memory

-- what a load puts into its register
unfoldable pub loaded : LoadKind → Term → Term
loaded load_kind.Byte a = sign_extend W32 (load (open_term memory) a)
loaded load_kind.Half a = sign_extend W32 (load_half (open_term memory) a)
loaded load_kind.Word a = load_word (open_term memory) a
loaded load_kind.ByteUnsigned a = zero_extend W32 (load (open_term memory) a)
loaded load_kind.HalfUnsigned a = zero_extend W32 (load_half (open_term memory) a)

-- the memory after a store
unfoldable pub stored : StoreKind → Term → Term → Term
stored store_kind.Byte a x = store_byte (open_term memory) a x
stored store_kind.Half a x = store_half (open_term memory) a x
stored store_kind.Word a x = store_word (open_term memory) a x

-- ---- tests

-- the address is a multiple of a power of 2, of which 1 is taken here
abbrev pub is_multiple : ℕ → Term → Term
is_multiple mask a = equal (bit_and a (number mask)) (number 0)

-- LB and LBU take any address
abbrev pub load_tests : LoadKind → Term → List Term
load_tests load_kind.Byte a = []
load_tests load_kind.Half a = is_multiple 1 a ∷ []
load_tests load_kind.Word a = is_multiple 3 a ∷ []
load_tests load_kind.ByteUnsigned a = []
load_tests load_kind.HalfUnsigned a = is_multiple 1 a ∷ []

-- the bytes from a to e, its last, meet none of a run of fixed bytes: the run's last byte is below a, or e below its first
abbrev pub avoids : Term → Term → Run → Term
avoids a e run = or_term (less (number (run.start + length run.bytes - 1)) a) (less e (number run.start))

-- the last byte that a store writes
abbrev pub last_written : StoreKind → Term → Term
last_written store_kind.Byte a = a
last_written store_kind.Half a = past a 1
last_written store_kind.Word a = past a 3

abbrev pub aligned_for : StoreKind → Term → List Term
aligned_for store_kind.Byte a = []
aligned_for store_kind.Half a = is_multiple 1 a ∷ []
aligned_for store_kind.Word a = is_multiple 3 a ∷ []

-- alignment, then each run of fixed bytes
abbrev pub store_tests : List Run → StoreKind → Term → List Term
store_tests runs kind a = aligned_for kind a ++ map (avoids a (last_written kind a)) runs

-- what has to hold before an instruction that continues at the next one
abbrev pub access_tests : List Run → Instr → List Term
access_tests runs (instr.Load kind rd base offset) = load_tests kind (address base offset)
access_tests runs (instr.Store kind base source offset) = store_tests runs kind (address base offset)
access_tests runs other = []

-- x1 is as it was when the function began
abbrev pub returns_home : Term
returns_home = equal (open_term (register 1)) (open_term (entry_register 1))

-- ---- what is bound

-- nothing writes x0
abbrev pub put : ℕ → Term → List Binding
put rd term = if rd == 0 then [] else record { variable = register rd; term = term } ∷ []

-- what an instruction at an address binds that continues at the next one
unfoldable pub effects : (pc : ℕ) → Instr → List Binding
effects pc (instr.Lui rd imm) = put rd (number ((imm * 2 ^ 12) % 2 ^ 32))
effects pc (instr.Auipc rd imm) = put rd (number (machine.past pc (imm * 2 ^ 12)))
effects pc (instr.Load kind rd base offset) = put rd (loaded kind (address base offset))
effects pc (instr.Store kind base source offset) = record { variable = memory; term = stored kind (address base offset) (operand source) } ∷ []
effects pc (instr.Immediate operation rd source imm) = put rd (computed (of_immediate operation) (operand source) (number (word imm)))
effects pc (instr.Shift operation rd source amount) = put rd (computed (of_shift operation) (operand source) (number amount))
effects pc (instr.Arithmetic operation rd left right) = put rd (computed operation (operand left) (operand right))
effects pc other = []

-- the test of a branch
unfoldable pub branch_test : Instr → Term
branch_test (instr.Branch test left right offset) = taken test (operand left) (operand right)
branch_test other = truth false
