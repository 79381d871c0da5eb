-- The calling convention: how a function is called, and what it gives back (RISC-V psABI, ILP32).
use Rattle.std.specs.Prelude.{◌≡◌, ◌+◌, ◌-◌, ◌%◌, ◌^◌, ◌<◌, ◌≤◌, ℕ, ℤ, List, [], ◌∷◌, Contains, slice_get, Option, Some, None, IfSome}
use Rattle.memory_spec.specs.Memory.{Memory, byte_at}
use Rattle.memory_spec.specs.Zones.{Zone, InZone}
use Rattle.rv_machine_spec.specs.Arithmetic.{word}
use Rattle.rv_machine_spec.specs.Machine.{Machine, IsMachine, read_register}
use Rattle.elf_read_spec.specs.Image.{Image, size_at, fixed_byte, global_pointer}
use Rattle.code_reach_spec.specs.Code.{InRange, Reaches, HoldsFixed}
use Rattle.c_types_spec.specs.declared.Scalar.{Scalar}

-- ---- words (RISC-V psABI, integer calling convention)

-- the words of the arguments of a call, one each: a value of a type that is narrower than a word is widened by the sign
-- of its type
abbrev pub argument_words : List ℤ → List ℕ
argument_words [] = []
argument_words (v ∷ values) = word v ∷ argument_words values

-- the word of the result of a call, unless the function is `void`
abbrev pub result_words : Option Scalar → Option ℤ → List ℕ
result_words (Some type) (Some v) = word v ∷ []
result_words type v = []

-- words are passed in registers from x10 on, one after the other
abbrev pub ArePassed : Machine → List ℕ → Type 0
ArePassed m words = (i n : ℕ) → slice_get words i ≡ Some n → read_register m (10 + i) ≡ n

-- ---- a call

-- the dead stack: the bytes below the stack pointer that the call may use
abbrev pub dead_stack : Machine → (stack : ℕ) → Zone
dead_stack m stack = record { low = read_register m 2 - stack; high = read_register m 2 }

-- a machine at the entry of a function, called with arguments of these words, with this much stack: the return address
-- in x1, the stack pointer in x2, gp in x3
pub record Meets (image : Image) (entry stack : ℕ) (m : Machine) (words : List ℕ) : Type 0 where
  pub machine : IsMachine m
  pub at_entry : m.pc ≡ entry
  pub return_aligned : read_register m 1 % 4 ≡ 0
  pub return_outside : (other size : ℕ) → Reaches image entry other → size_at image other ≡ Some size → InRange other size (read_register m 1) → ⊥
  pub stack_aligned : read_register m 2 % 16 ≡ 0
  pub stack_room : stack ≤ read_register m 2
  pub gp : IfSome (global_pointer image) (λ value. read_register m 3 ≡ value)
  pub arguments : ArePassed m words
  pub fixed : HoldsFixed image m.memory
  pub zone_free : (address : ℕ) → InZone (dead_stack m stack) address → fixed_byte image address ≡ None

-- ---- a return

-- sp, gp, tp and s0 to s11 (RISC-V psABI, integer register convention)
abbrev pub kept_registers : List ℕ
kept_registers = 2 ∷ 3 ∷ 4 ∷ 8 ∷ 9 ∷ 18 ∷ 19 ∷ 20 ∷ 21 ∷ 22 ∷ 23 ∷ 24 ∷ 25 ∷ 26 ∷ 27 ∷ []

-- the machine at the return gives a result of these words, this memory outside the dead stack, and the kept registers
-- as they were at the call
pub record Gives (m final : Machine) (zone : Zone) (words : List ℕ) (memory : Memory) : Type 0 where
  pub result_given : ArePassed final words
  pub memory_given : (address : ℕ) → address < 2 ^ 32 → (InZone zone address → ⊥) → byte_at final.memory address ≡ byte_at memory address
  pub registers_kept : (register : ℕ) → Contains kept_registers register → read_register final register ≡ read_register m register
