-- Which instruction a 32-bit word is: the RISC-V unprivileged specification, chapters "RV32I Base Integer
-- Instruction Set" (formats and opcodes; the opcode map and the listings of chapter "RV32/64G Instruction Set
-- Listings") and "M Extension". A word is a number below 2 ^ 32.
--     field low count w      the `count` bits of w from bit `low` up
--     instr w                the instruction of w, or none
use Rattle.std.specs.Prelude.{ℕ, ◌+◌, ◌-◌, ◌*◌, ◌/◌, ◌%◌, ◌^◌, ◌==◌, nat_lt, if◌then◌else◌, ℤ, pos, ◌-ℤ◌, List, [], ◌∷◌, Option, Some, None, option_map}
use Rattle.rv_instr.specs.declared.Instr.{Instr}
use Rattle.rv_instr.specs.declared.Instr.TheVariants.{Lui, Auipc, Jal, Jalr, Branch, Load, Store, Immediate, Shift, Arithmetic, Fence, Ecall, Ebreak}
use Rattle.rv_instr.specs.declared.BranchTest.{BranchTest}
use Rattle.rv_instr.specs.declared.BranchTest.TheVariants.{Equal, NotEqual, Less, GreaterOrEqual, LessUnsigned, GreaterOrEqualUnsigned}
use Rattle.rv_instr.specs.declared.LoadKind.{LoadKind}
use Rattle.rv_instr.specs.declared.LoadKind.TheVariants as load
use Rattle.rv_instr.specs.declared.StoreKind.{StoreKind}
use Rattle.rv_instr.specs.declared.StoreKind.TheVariants as store
use Rattle.rv_instr.specs.declared.ImmediateOperation.{ImmediateOperation}
use Rattle.rv_instr.specs.declared.ImmediateOperation.TheVariants as immediate
use Rattle.rv_instr.specs.declared.ShiftOperation.{ShiftOperation}
use Rattle.rv_instr.specs.declared.ShiftOperation.TheVariants.{Left, RightLogical, RightArithmetic}
use Rattle.rv_instr.specs.declared.ArithmeticOperation.{ArithmeticOperation}
use Rattle.rv_instr.specs.declared.ArithmeticOperation.TheVariants as arithmetic

-- ---- fields ("Base Instruction Formats")

abbrev pub field : ℕ → ℕ → ℕ → ℕ
field low count w = w / 2 ^ low % 2 ^ count

abbrev pub opcode : ℕ → ℕ
opcode w = field 0 7 w

abbrev pub rd : ℕ → ℕ
rd w = field 7 5 w

abbrev pub funct3 : ℕ → ℕ
funct3 w = field 12 3 w

abbrev pub rs1 : ℕ → ℕ
rs1 w = field 15 5 w

abbrev pub rs2 : ℕ → ℕ
rs2 w = field 20 5 w

abbrev pub funct7 : ℕ → ℕ
funct7 w = field 25 7 w

-- funct7 and funct3 as one number
abbrev pub funct10 : ℕ → ℕ
funct10 w = funct7 w * 8 + funct3 w

-- ---- immediates ("Immediate Encoding Variants")

-- the number whose `count` bits in two's complement are n
abbrev pub signed : ℕ → ℕ → ℤ
signed count n = if nat_lt n (2 ^ (count - 1)) then pos n else pos n -ℤ pos (2 ^ count)

abbrev pub i_immediate : ℕ → ℤ
i_immediate w = signed 12 (field 20 12 w)

abbrev pub s_immediate : ℕ → ℤ
s_immediate w = signed 12 (field 25 7 w * 2 ^ 5 + field 7 5 w)

abbrev pub b_immediate : ℕ → ℤ
b_immediate w = signed 13 (field 31 1 w * 2 ^ 12 + field 7 1 w * 2 ^ 11 + field 25 6 w * 2 ^ 5 + field 8 4 w * 2)

abbrev pub u_immediate : ℕ → ℕ
u_immediate w = field 12 20 w

abbrev pub j_immediate : ℕ → ℤ
j_immediate w = signed 21 (field 31 1 w * 2 ^ 20 + field 12 8 w * 2 ^ 12 + field 20 1 w * 2 ^ 11 + field 21 10 w * 2)

-- ---- the tables ("RV32I Base Instruction Set", "RV32M Standard Extension")

-- what a table has at a key
abbrev pub listed : {X : Type 0} → List (ℕ × X) → ℕ → Option X
listed [] key = None
listed (row ∷ rows) key = if key == row.0 then Some row.1 else listed rows key

-- by funct3
abbrev pub branches : List (ℕ × BranchTest)
branches = (0, Equal) ∷ (1, NotEqual) ∷ (4, Less) ∷ (5, GreaterOrEqual) ∷ (6, LessUnsigned) ∷ (7, GreaterOrEqualUnsigned) ∷ []

-- by funct3
abbrev pub loads : List (ℕ × LoadKind)
loads = (0, load.Byte) ∷ (1, load.Half) ∷ (2, load.Word) ∷ (4, load.ByteUnsigned) ∷ (5, load.HalfUnsigned) ∷ []

-- by funct3
abbrev pub stores : List (ℕ × StoreKind)
stores = (0, store.Byte) ∷ (1, store.Half) ∷ (2, store.Word) ∷ []

-- by funct3
abbrev pub immediates : List (ℕ × ImmediateOperation)
immediates = (0, immediate.Add) ∷ (2, immediate.SetLess) ∷ (3, immediate.SetLessUnsigned) ∷ (4, immediate.Xor) ∷ (6, immediate.Or) ∷ (7, immediate.And) ∷ []

-- by funct7 and funct3
abbrev pub shifts : List (ℕ × ShiftOperation)
shifts = (0x00 * 8 + 1, Left) ∷ (0x00 * 8 + 5, RightLogical) ∷ (0x20 * 8 + 5, RightArithmetic) ∷ []

-- by funct7 and funct3
abbrev pub arithmetics : List (ℕ × ArithmeticOperation)
arithmetics =
    (0x00 * 8 + 0, arithmetic.Add) ∷ (0x00 * 8 + 1, arithmetic.ShiftLeft) ∷ (0x00 * 8 + 2, arithmetic.SetLess)
    ∷ (0x00 * 8 + 3, arithmetic.SetLessUnsigned) ∷ (0x00 * 8 + 4, arithmetic.Xor) ∷ (0x00 * 8 + 5, arithmetic.ShiftRightLogical)
    ∷ (0x00 * 8 + 6, arithmetic.Or) ∷ (0x00 * 8 + 7, arithmetic.And)
    ∷ (0x20 * 8 + 0, arithmetic.Subtract) ∷ (0x20 * 8 + 5, arithmetic.ShiftRightArithmetic)
    ∷ (0x01 * 8 + 0, arithmetic.Multiply) ∷ (0x01 * 8 + 1, arithmetic.MultiplyHigh) ∷ (0x01 * 8 + 2, arithmetic.MultiplyHighSignedUnsigned)
    ∷ (0x01 * 8 + 3, arithmetic.MultiplyHighUnsigned) ∷ (0x01 * 8 + 4, arithmetic.Divide) ∷ (0x01 * 8 + 5, arithmetic.DivideUnsigned)
    ∷ (0x01 * 8 + 6, arithmetic.Remainder) ∷ (0x01 * 8 + 7, arithmetic.RemainderUnsigned) ∷ []

-- ---- the instruction of a word

-- the one of two that is there
abbrev pub either : {X : Type 0} → Option X → Option X → Option X
either (Some x) other = Some x
either None other = other

-- an operation with an immediate, or a shift by one
unfoldable pub instr_of_immediate : ℕ → Option Instr
instr_of_immediate w =
    either (option_map (λ operation. Immediate operation (rd w) (rs1 w) (i_immediate w)) (listed immediates (funct3 w)))
    (option_map (λ operation. Shift operation (rd w) (rs1 w) (rs2 w)) (listed shifts (funct10 w)))

-- the instruction of w, whose opcode is `op`
unfoldable pub instr_of : ℕ → ℕ → Option Instr
instr_of op w =
    if op == 0x37 then Some (Lui (rd w) (u_immediate w))
    else if op == 0x17 then Some (Auipc (rd w) (u_immediate w))
    else if op == 0x6f then Some (Jal (rd w) (j_immediate w))
    else if op == 0x67 then (if funct3 w == 0 then Some (Jalr (rd w) (rs1 w) (i_immediate w)) else None)
    else if op == 0x63 then option_map (λ test. Branch test (rs1 w) (rs2 w) (b_immediate w)) (listed branches (funct3 w))
    else if op == 0x03 then option_map (λ kind. Load kind (rd w) (rs1 w) (i_immediate w)) (listed loads (funct3 w))
    else if op == 0x23 then option_map (λ kind. Store kind (rs1 w) (rs2 w) (s_immediate w)) (listed stores (funct3 w))
    else if op == 0x13 then instr_of_immediate w
    else if op == 0x33 then option_map (λ operation. Arithmetic operation (rd w) (rs1 w) (rs2 w)) (listed arithmetics (funct10 w))
    else if op == 0x0f then (if funct3 w == 0 then Some (Fence (rd w) (rs1 w) (field 20 12 w)) else None)
    else if w == 0x00000073 then Some Ecall
    else if w == 0x00100073 then Some Ebreak
    else None

unfoldable pub instr : ℕ → Option Instr
instr w = instr_of (opcode w) w
