-- The run-up of a jump by a table: straight code, of which the registers are followed symbolically from its start on.
-- What a register then has is a tree in normal form: constants are computed and gathered at the right of a sum.
-- (RISC-V unprivileged specification, chapter "RV32I Base Integer Instruction Set".)
use Rattle.std.specs.Prelude.{ℕ, ◌+◌, ◌-◌, ◌*◌, ◌%◌, ◌^◌, ◌==◌, ◌&&◌, not, bit_and, Bool, false, true, if◌then◌else◌, List, [], ◌∷◌, Option, Some, None}
use Rattle.rv_instr.specs.declared.Instr.{Instr}
use Rattle.rv_instr.specs.declared.Instr.TheVariants.{Lui, Auipc, Jal, Jalr, Branch, Load, Store, Immediate, Shift, Arithmetic, Fence, Ecall, Ebreak}
use Rattle.rv_instr.specs.declared.BranchTest.TheVariants.{LessUnsigned, GreaterOrEqualUnsigned}
use Rattle.rv_instr.specs.declared.LoadKind.TheVariants.{Word}
use Rattle.rv_instr.specs.declared.ImmediateOperation.TheVariants as immediate
use Rattle.rv_instr.specs.declared.ShiftOperation.TheVariants as shift
use Rattle.rv_instr.specs.declared.ArithmeticOperation.TheVariants as arithmetic
use Rattle.rv_machine_spec.specs.Arithmetic.{word}
use Rattle.rv_machine_spec.specs.Machine.{past}

-- ---- what a register has

pub data Symbolic : Type 0 where
  Constant : (n : ℕ) → Symbolic
  -- what a register has at the start
  Initial : (r : ℕ) → Symbolic
  -- what the instruction at an address puts into its register, where that is not followed
  Unknown : (address : ℕ) → Symbolic
  -- modulo 2^32
  Sum : (a b : Symbolic) → Symbolic
  Difference : (a b : Symbolic) → Symbolic
  Shifted : (a : Symbolic) (amount : ℕ) → Symbolic
  Masked : (a : Symbolic) (mask : ℕ) → Symbolic

-- the trees are equal
unfoldable pub same : Symbolic → Symbolic → Bool
same (Constant m) (Constant n) = m == n
same (Initial r) (Initial s) = r == s
same (Unknown p) (Unknown q) = p == q
same (Sum a b) (Sum c d) = same a c && same b d
same (Difference a b) (Difference c d) = same a c && same b d
same (Shifted a m) (Shifted b n) = same a b && (m == n)
same (Masked a m) (Masked b n) = same a b && (m == n)
same a b = false

unfoldable pub constant_of : Symbolic → Option ℕ
constant_of (Constant n) = Some n
constant_of a = None

-- what is added to a constant, and the constant
unfoldable pub parts_of : Symbolic → Option (Symbolic × ℕ)
parts_of (Sum a (Constant n)) = Some (a, n)
parts_of a = None

abbrev pub plus_constant : Symbolic → ℕ → Symbolic
plus_constant a n = if n == 0 then a else Sum a (Constant n)

abbrev pub plus_by : Symbolic → ℕ → Option (Symbolic × ℕ) → Symbolic
plus_by a n None = plus_constant a n
plus_by a n (Some (rest, m)) = plus_constant rest ((m + n) % 2 ^ 32)

-- a + n, where a is no constant
abbrev pub plus : Symbolic → ℕ → Symbolic
plus a n = plus_by a n (parts_of a)

abbrev pub sum_by : (a b : Symbolic) → Option ℕ → Option ℕ → Symbolic
sum_by a b (Some m) (Some n) = Constant ((m + n) % 2 ^ 32)
sum_by a b (Some m) None = plus b m
sum_by a b None (Some n) = plus a n
sum_by a b None None = Sum a b

unfoldable pub sum : (a b : Symbolic) → Symbolic
sum a b = sum_by a b (constant_of a) (constant_of b)

abbrev pub difference_by : (a b : Symbolic) → Option ℕ → Option ℕ → Symbolic
difference_by a b (Some m) (Some n) = Constant ((m + (2 ^ 32 - n % 2 ^ 32)) % 2 ^ 32)
difference_by a b None (Some n) = plus a ((2 ^ 32 - n % 2 ^ 32) % 2 ^ 32)
difference_by a b m None = if same a b then Constant 0 else Difference a b

unfoldable pub difference : (a b : Symbolic) → Symbolic
difference a b = difference_by a b (constant_of a) (constant_of b)

abbrev pub shifted_by : Symbolic → (amount : ℕ) → Option ℕ → Symbolic
shifted_by a amount (Some n) = Constant (n * 2 ^ amount % 2 ^ 32)
shifted_by a amount None = if amount == 0 then a else Shifted a amount

unfoldable pub shifted : Symbolic → (amount : ℕ) → Symbolic
shifted a amount = shifted_by a amount (constant_of a)

abbrev pub masked_by : Symbolic → (mask : ℕ) → Option ℕ → Symbolic
masked_by a mask (Some n) = Constant (bit_and n mask)
masked_by a mask None = if mask == 0 then Constant 0 else if mask == 2 ^ 32 - 1 then a else Masked a mask

unfoldable pub masked : Symbolic → (mask : ℕ) → Symbolic
masked a mask = masked_by a mask (constant_of a)

-- ---- one instruction

abbrev pub Registers : Type 0
Registers = ℕ → Symbolic

-- x0 is the constant 0
abbrev pub at_start : Registers
at_start r = if r == 0 then Constant 0 else Initial r

-- what an instruction puts into its register, if it has one
unfoldable pub result_of : Registers → (address : ℕ) → Instr → Option (ℕ × Symbolic)
result_of x address (Lui rd imm) = Some (rd, Constant (imm * 2 ^ 12 % 2 ^ 32))
result_of x address (Auipc rd imm) = Some (rd, Constant (past address (imm * 2 ^ 12)))
result_of x address (Load kind rd base offset) = Some (rd, Unknown address)
result_of x address (Immediate immediate.Add rd source imm) = Some (rd, sum (x source) (Constant (word imm)))
result_of x address (Immediate immediate.And rd source imm) = Some (rd, masked (x source) (word imm))
result_of x address (Immediate operation rd source imm) = Some (rd, Unknown address)
result_of x address (Shift shift.Left rd source amount) = Some (rd, shifted (x source) amount)
result_of x address (Shift operation rd source amount) = Some (rd, Unknown address)
result_of x address (Arithmetic arithmetic.Add rd left right) = Some (rd, sum (x left) (x right))
result_of x address (Arithmetic arithmetic.Subtract rd left right) = Some (rd, difference (x left) (x right))
result_of x address (Arithmetic operation rd left right) = Some (rd, Unknown address)
result_of x address other = None

-- the registers after a result; nothing writes x0
abbrev pub with_result : Option (ℕ × Symbolic) → Registers → Registers
with_result None x r = x r
with_result (Some result) x r = if (r == result.0) && not (r == 0) then result.1 else x r

-- the result is put into this register
abbrev pub is_into : (r : ℕ) → Option (ℕ × Symbolic) → Bool
is_into r None = false
is_into r (Some result) = (r == result.0) && not (r == 0)

-- an upper bound of what a register has, where a branch falls through
pub record Bound : Type 0 where
  pub branch : ℕ  -- the branch's address
  pub index : Symbolic  -- what the register has
  pub count : ℕ  -- it is less

abbrev pub bound_at : (branch count : ℕ) → Symbolic → Bound
bound_at branch count index = record { branch = branch; index = index; count = count }

-- BLTU of a constant and x falls through where x is at most that
abbrev pub at_most : (branch : ℕ) → (constant index : Symbolic) → Option Bound
at_most branch (Constant c) index = Some (bound_at branch (c + 1) index)
at_most branch other index = None

-- BGEU of x and a constant falls through where x is less than that
abbrev pub less_than : (branch : ℕ) → (index constant : Symbolic) → Option Bound
less_than branch index (Constant n) = Some (bound_at branch n index)
less_than branch index other = None

unfoldable pub bound_of : Registers → (address : ℕ) → Instr → Option Bound
bound_of x address (Branch LessUnsigned left right offset) = at_most address (x left) (x right)
bound_of x address (Branch GreaterOrEqualUnsigned left right offset) = less_than address (x left) (x right)
bound_of x address other = None

-- the address from which LW loads a word into this register
abbrev pub source_of : Registers → (r : ℕ) → Instr → Option Symbolic
source_of x r (Load Word rd base offset) = if (r == rd) && not (r == 0) then Some (sum (x base) (Constant (word offset))) else None
source_of x r other = None

-- ---- a run-up

-- no word before the jump is a JAL, a JALR, ECALL or EBREAK
abbrev pub is_straight : Instr → Bool
is_straight (Jal rd offset) = false
is_straight (Jalr rd base offset) = false
is_straight Ecall = false
is_straight Ebreak = false
is_straight other = true

-- what is followed of a run-up to a jump by the register r
pub record Followed : Type 0 where
  pub registers : Registers
  pub source : Option Symbolic  -- the address of the word in r, where LW put it there
  pub bounds : List Bound  -- the last one first

abbrev pub with_bound : Option Bound → List Bound → List Bound
with_bound None bounds = bounds
with_bound (Some bound) bounds = bound ∷ bounds

abbrev pub source_after : (r : ℕ) → Option (ℕ × Symbolic) → (loaded before : Option Symbolic) → Option Symbolic
source_after r result loaded before = if is_into r result then loaded else before

-- past the instruction at an address
unfoldable pub follow : (r address : ℕ) → Instr → Followed → Followed
follow r address i f = record {
  registers = with_result (result_of f.registers address i) f.registers;
  source = source_after r (result_of f.registers address i) (source_of f.registers r i) f.source;
  bounds = with_bound (bound_of f.registers address i) f.bounds;
}

-- past instructions, of which the first is at this address
abbrev pub followed : (r address : ℕ) → List Instr → Followed → Followed
followed r address [] f = f
followed r address (i ∷ rest) f = followed r (address + 4) rest (follow r address i f)

-- a table of words: that of the index x is at first + 4 * x
pub record Table : Type 0 where
  pub first : ℕ
  pub index : Symbolic

-- what is shifted to the left, and by how much
unfoldable pub shift_of : Symbolic → Option (Symbolic × ℕ)
shift_of (Shifted a amount) = Some (a, amount)
shift_of a = None

abbrev pub indexed : (first : ℕ) → Option (Symbolic × ℕ) → Option Table
indexed first None = None
indexed first (Some (x, amount)) = if amount == 2 then Some (record { first = first; index = x }) else None

abbrev pub table_of_parts : Option (Symbolic × ℕ) → Option Table
table_of_parts None = None
table_of_parts (Some (a, first)) = indexed first (shift_of a)

abbrev pub table_from : (source : Option Symbolic) → Option Table
table_from None = None
table_from (Some s) = table_of_parts (parts_of s)

-- the last bound of the index
abbrev pub bound_on : Symbolic → List Bound → Option Bound
bound_on x [] = None
bound_on x (bound ∷ bounds) = if same bound.index x then Some bound else bound_on x bounds

abbrev pub with_first : (first : ℕ) → Option Bound → Option (ℕ × Bound)
with_first first None = None
with_first first (Some bound) = Some (first, bound)

-- where the words of a table begin, and the bound of its index
abbrev pub bounded : List Bound → Option Table → Option (ℕ × Bound)
bounded bounds None = None
bounded bounds (Some table) = with_first table.first (bound_on table.index bounds)

-- before the first word of a run-up
abbrev pub before_all : Followed
before_all = record { registers = at_start; source = None; bounds = [] }

-- where the table begins from which r was last loaded in a run-up, and the last bound of its index
abbrev pub looked_up : (r start : ℕ) → List Instr → Option (ℕ × Bound)
looked_up r start instructions = let end = followed r start instructions before_all in bounded end.bounds (table_from end.source)
