-- What an instruction does to the machine: the RISC-V unprivileged specification, chapters "RV32I Base Integer
-- Instruction Set" and "M Extension". None is a trap. Where that specification leaves a choice: a misaligned load or
-- store, ECALL, EBREAK and every word that is no instruction trap, and FENCE does nothing.
use Rattle.std.specs.Prelude.{ℕ, zero, suc, ◌*◌, ◌/◌, ◌%◌, ◌^◌, ◌==◌, if◌then◌else◌, ℤ, Option, Some, None, option_map, option_and_then}
use Rattle.rv_instr.specs.Instr.{instr}
use Rattle.rv_instr.specs.declared.Instr.{Instr}
use Rattle.rv_instr.specs.declared.Instr.TheVariants.{Lui, Auipc, Jal, Jalr, Branch, Load, Store, Immediate, Shift, Arithmetic, Fence, Ecall, Ebreak}
use Rattle.rv_instr.specs.declared.LoadKind.{LoadKind}
use Rattle.rv_instr.specs.declared.LoadKind.TheVariants as load_kind
use Rattle.rv_instr.specs.declared.StoreKind.{StoreKind}
use Rattle.rv_instr.specs.declared.StoreKind.TheVariants as store_kind
use Rattle.rv_machine_spec.specs.Arithmetic.{word, extended, arithmetic, of_immediate, of_shift, holds}
use Rattle.memory_spec.specs.Memory.{Memory, byte_at}
use Rattle.rv_machine_spec.specs.Machine.{Machine, read_register, write_register, past, load_half, load_word, store_byte, store_half, store_word}

-- ---- parts of an instruction

-- on to the following instruction
abbrev pub next : Machine → Machine
next m = record m { pc = past m.pc 4 }

-- x[rd] = value, and on
abbrev pub put : ℕ → ℕ → Machine → Machine
put rd value m = next (write_register m rd value)

-- x, where the address a is a multiple of n
abbrev pub aligned : {X : Type 0} → ℕ → ℕ → X → Option X
aligned n a x = if a % n == 0 then Some x else None

-- a taken branch
abbrev pub goto : ℕ → Machine → Option Machine
goto target m = aligned 4 target (record m { pc = target })

-- x[rd] = the address of the following instruction, and to the target
abbrev pub link : ℕ → ℕ → Machine → Option Machine
link rd target m = aligned 4 target (record (write_register m rd (past m.pc 4)) { pc = target })

-- the address x[base] + offset
abbrev pub address : Machine → ℕ → ℤ → ℕ
address m base offset = past (read_register m base) (word offset)

-- what a load puts into its register
unfoldable pub load : LoadKind → Memory → ℕ → Option ℕ
load load_kind.Byte memory a = Some (extended 8 (byte_at memory a))
load load_kind.Half memory a = aligned 2 a (extended 16 (load_half memory a))
load load_kind.Word memory a = aligned 4 a (load_word memory a)
load load_kind.ByteUnsigned memory a = Some (byte_at memory a)
load load_kind.HalfUnsigned memory a = aligned 2 a (load_half memory a)

-- the memory after a store
unfoldable pub store : StoreKind → Memory → ℕ → ℕ → Option Memory
store store_kind.Byte memory a value = Some (store_byte memory a value)
store store_kind.Half memory a value = aligned 2 a (store_half memory a value)
store store_kind.Word memory a value = aligned 4 a (store_word memory a value)

-- ---- an instruction, a step, a run

unfoldable pub execute : Instr → Machine → Option Machine
execute (Lui rd imm) m = Some (put rd ((imm * 2 ^ 12) % 2 ^ 32) m)
execute (Auipc rd imm) m = Some (put rd (past m.pc (imm * 2 ^ 12)) m)
execute (Jal rd offset) m = link rd (past m.pc (word offset)) m
execute (Jalr rd base offset) m = link rd (address m base offset / 2 * 2) m
execute (Branch test left right offset) m =
    if holds test (read_register m left) (read_register m right) then goto (past m.pc (word offset)) m else Some (next m)
execute (Load kind rd base offset) m = option_map (λ value. put rd value m) (load kind m.memory (address m base offset))
execute (Store kind base source offset) m =
    option_map (λ memory. next (record m { memory = memory })) (store kind m.memory (address m base offset) (read_register m source))
execute (Immediate operation rd source imm) m = Some (put rd (arithmetic (of_immediate operation) (read_register m source) (word imm)) m)
execute (Shift operation rd source amount) m = Some (put rd (arithmetic (of_shift operation) (read_register m source) amount) m)
execute (Arithmetic operation rd left right) m = Some (put rd (arithmetic operation (read_register m left) (read_register m right)) m)
execute (Fence rd source bits) m = Some (next m)
execute Ecall m = None
execute Ebreak m = None

-- the instruction of the four bytes at pc
unfoldable pub step : Machine → Option Machine
step m = option_and_then (λ i. execute i m) (instr (load_word m.memory m.pc))

-- the machine after at most k steps, halting where pc is `stop` (at the start too); None once a step traps
unfoldable pub after : Machine → ℕ → ℕ → Option Machine
after m stop zero = Some m
after m stop (suc k) = if m.pc == stop then Some m else option_and_then (λ n. after n stop k) (step m)
