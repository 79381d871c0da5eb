-- Which instructions have a word: the ranges of the fields in the RISC-V unprivileged specification, "Base
-- Instruction Formats" and "Immediate Encoding Variants".
use Rattle.std.specs.Prelude.{◌≡◌, ℕ, ◌-◌, ◌%◌, ◌^◌, ◌<◌, ℤ, pos, neg_ℤ, ◌≤ℤ◌, ◌<ℤ◌, unsigned_abs}
use Rattle.rv_instr.specs.declared.Instr.{Instr}
use Rattle.rv_instr.specs.declared.Instr.TheVariants.{Lui, Auipc, Jal, Jalr, Branch, Load, Store, Immediate, Shift, Arithmetic, Fence, Ecall, Ebreak}

-- z is a number of `count` bits in two's complement
abbrev pub IsSigned : ℕ → ℤ → Type 0
IsSigned count z = (neg_ℤ (pos (2 ^ (count - 1))) ≤ℤ z) × (z <ℤ pos (2 ^ (count - 1)))

abbrev pub IsEven : ℤ → Type 0
IsEven z = unsigned_abs z % 2 ≡ 0

abbrev pub Fits : Instr → Type 0
Fits (Lui rd imm) = imm < 2 ^ 20
Fits (Auipc rd imm) = imm < 2 ^ 20
Fits (Jal rd offset) = IsSigned 21 offset × IsEven offset
Fits (Jalr rd base offset) = IsSigned 12 offset
Fits (Branch test left right offset) = IsSigned 13 offset × IsEven offset
Fits (Load kind rd base offset) = IsSigned 12 offset
Fits (Store kind base source offset) = IsSigned 12 offset
Fits (Immediate operation rd source imm) = IsSigned 12 imm
Fits (Shift operation rd source amount) = amount < 32
Fits (Arithmetic operation rd left right) = Unit {0}
Fits (Fence rd source bits) = bits < 2 ^ 12
Fits Ecall = Unit {0}
Fits Ebreak = Unit {0}
