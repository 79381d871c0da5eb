-- What an instruction does, its operands read, and what that means for the machine.
use Rattle.std.specs.Prelude.{◌≡◌, ℕ, ◌*◌, ◌/◌, ◌%◌, ◌^◌, ◌==◌, Bool, true, if◌then◌else◌, Option, Some, None, option_map}
use Rattle.rv_instr.specs.declared.Instr.{Instr}
use Rattle.rv_instr.specs.declared.Instr.TheVariants.{Lui, Auipc, Jal, Jalr, Branch, Load, Store, Immediate, Shift, Arithmetic, Fence, Ecall, Ebreak}
use Rattle.rv_machine_spec.specs.Machine.{Machine, read_register, write_register, past}
use Rattle.rv_machine_spec.specs.Arithmetic.{word, arithmetic, of_immediate, of_shift, holds}
use Rattle.rv_machine_spec.specs.Step.{next, put, load, store, execute}
use Rattle.rv_machine.specs.Stores.{load_size, store_size}
use Rattle.rv_machine.specs.declared.Effect.{Effect}
use Rattle.rv_machine.specs.declared.Effect.TheVariants.{Put, Link, Goto, Nothing, Trap}
use Rattle.rv_machine.specs.declared.Effect.TheVariants as effects

-- the register that an instruction reads first, and second; x0 where it reads none
abbrev pub first_source : Instr → ℕ
first_source (Jalr rd base offset) = base
first_source (Branch test left right offset) = left
first_source (Load kind rd base offset) = base
first_source (Store kind base source offset) = base
first_source (Immediate operation rd source imm) = source
first_source (Shift operation rd source amount) = source
first_source (Arithmetic operation rd left right) = left
first_source (Lui rd imm) = 0
first_source (Auipc rd imm) = 0
first_source (Jal rd offset) = 0
first_source (Fence rd source bits) = 0
first_source Ecall = 0
first_source Ebreak = 0

abbrev pub second_source : Instr → ℕ
second_source (Branch test left right offset) = right
second_source (Store kind base source offset) = source
second_source (Arithmetic operation rd left right) = right
second_source (Jalr rd base offset) = 0
second_source (Load kind rd base offset) = 0
second_source (Immediate operation rd source imm) = 0
second_source (Shift operation rd source amount) = 0
second_source (Lui rd imm) = 0
second_source (Auipc rd imm) = 0
second_source (Jal rd offset) = 0
second_source (Fence rd source bits) = 0
second_source Ecall = 0
second_source Ebreak = 0

-- what an instruction at the address pc attempts, where its sources have the values a and b
unfoldable pub attempted : Instr → (a b pc : ℕ) → Effect
attempted (Lui rd imm) a b pc = Put rd ((imm * 2 ^ 12) % 2 ^ 32)
attempted (Auipc rd imm) a b pc = Put rd (past pc (imm * 2 ^ 12))
attempted (Jal rd offset) a b pc = Link rd (past pc (word offset))
attempted (Jalr rd base offset) a b pc = Link rd (past a (word offset) / 2 * 2)
attempted (Branch test left right offset) a b pc = if holds test a b then Goto (past pc (word offset)) else Nothing
attempted (Load kind rd base offset) a b pc = effects.Load kind rd (past a (word offset))
attempted (Store kind base source offset) a b pc = effects.Store kind (past a (word offset)) b
attempted (Immediate operation rd source imm) a b pc = Put rd (arithmetic (of_immediate operation) a (word imm))
attempted (Shift operation rd source amount) a b pc = Put rd (arithmetic (of_shift operation) a amount)
attempted (Arithmetic operation rd left right) a b pc = Put rd (arithmetic operation a b)
attempted (Fence rd source bits) a b pc = Nothing
attempted Ecall a b pc = Trap
attempted Ebreak a b pc = Trap

-- its address, where it has one, is a multiple of its size
abbrev pub is_aligned : Effect → Bool
is_aligned (Put rd value) = true
is_aligned (Link rd target) = target % 4 == 0
is_aligned (Goto target) = target % 4 == 0
is_aligned (effects.Load kind rd address) = address % load_size kind == 0
is_aligned (effects.Store kind address value) = address % store_size kind == 0
is_aligned Nothing = true
is_aligned Trap = true

-- what it does: what it attempts, or a trap where that is misaligned
unfoldable pub effect_of : Instr → (a b pc : ℕ) → Effect
effect_of i a b pc = if is_aligned (attempted i a b pc) then attempted i a b pc else Trap

-- the machine after an effect; None is a trap
abbrev pub applied : Effect → Machine → Option Machine
applied (Put rd value) m = Some (put rd value m)
applied (Link rd target) m = Some (record (write_register m rd (past m.pc 4)) { pc = target })
applied (Goto target) m = Some (record m { pc = target })
applied (effects.Load kind rd address) m = option_map (λ value. put rd value m) (load kind m.memory address)
applied (effects.Store kind address value) m = option_map (λ memory. next (record m { memory = memory })) (store kind m.memory address value)
applied Nothing m = Some (next m)
applied Trap m = None

-- an instruction does this: every machine at pc whose sources have these values executes it so
abbrev pub IsEffectOf : Instr → (a b pc : ℕ) → Effect → Type 0
IsEffectOf i a b pc effect =
    (m : Machine) → m.pc ≡ pc → read_register m (first_source i) ≡ a → read_register m (second_source i) ≡ b
    → execute i m ≡ applied effect m

-- the address of the effect is aligned
abbrev pub IsAligned : Effect → Type 0
IsAligned (Put rd value) = Unit {0}
IsAligned (Link rd target) = target % 4 ≡ 0
IsAligned (Goto target) = target % 4 ≡ 0
IsAligned (effects.Load kind rd address) = address % load_size kind ≡ 0
IsAligned (effects.Store kind address value) = address % store_size kind ≡ 0
IsAligned Nothing = Unit {0}
IsAligned Trap = Unit {0}
