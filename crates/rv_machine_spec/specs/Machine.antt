-- The state of an RV32IM machine: the RISC-V unprivileged specification, "Programmers' Model for Base Integer ISA" and
-- "Memory". Words are numbers below 2 ^ 32 and bytes numbers below 256; memory is little-endian and addresses wrap.
use Rattle.std.specs.Prelude.{◌≡◌, ℕ, ◌+◌, ◌*◌, ◌/◌, ◌%◌, ◌^◌, ◌<◌, ◌==◌, if◌then◌else◌, List, length, get_or, set, All, Some}
use Rattle.std.specs.FinMap.{get, insert}
use Rattle.memory_spec.specs.Memory.{Memory, byte_at}

-- the state of register 0 is never read and never changed
pub record Machine : Type 0 where
  pub registers : List ℕ
  pub pc : ℕ
  pub memory : Memory

pub record IsMachine (m : Machine) : Type 0 where
  pub count : length m.registers ≡ 32
  pub words : All (λ r. r < 2 ^ 32) m.registers
  pub pc_word : m.pc < 2 ^ 32
  pub cells : (a b : ℕ) → get m.memory a ≡ Some b → (a < 2 ^ 32) × (b < 256)

-- ---- registers

-- x0 is hardwired to 0
unfoldable pub read_register : Machine → ℕ → ℕ
read_register m r = if r == 0 then 0 else get_or m.registers r 0

unfoldable pub write_register : Machine → ℕ → ℕ → Machine
write_register m r value = if r == 0 then m else record m { registers = set m.registers r value }

-- ---- memory

-- the address n bytes past a
abbrev pub past : ℕ → ℕ → ℕ
past a n = (a + n) % 2 ^ 32

unfoldable pub load_half : Memory → ℕ → ℕ
load_half memory a = byte_at memory a + 2 ^ 8 * byte_at memory (past a 1)

unfoldable pub load_word : Memory → ℕ → ℕ
load_word memory a = byte_at memory a + 2 ^ 8 * byte_at memory (past a 1) + 2 ^ 16 * byte_at memory (past a 2) + 2 ^ 24 * byte_at memory (past a 3)

-- the lowest byte of the value, and so below
unfoldable pub store_byte : Memory → ℕ → ℕ → Memory
store_byte memory a value = insert memory a (value % 256)

unfoldable pub store_half : Memory → ℕ → ℕ → Memory
store_half memory a value = store_byte (store_byte memory a value) (past a 1) (value / 2 ^ 8)

unfoldable pub store_word : Memory → ℕ → ℕ → Memory
store_word memory a value =
    store_byte (store_byte (store_byte (store_byte memory a value) (past a 1) (value / 2 ^ 8)) (past a 2) (value / 2 ^ 16)) (past a 3) (value / 2 ^ 24)
