-- The variables of code, and the values that a machine gives them.
use Rattle.std.specs.Prelude.{◌≡◌, ◌≢◌, ℕ, ◌<◌}
use Rattle.term_core_spec.specs.declared.Width.TheVariants.{W32}
use Rattle.term_core_spec.specs.declared.Sort.TheVariants as sort
use Rattle.term_core_spec.specs.declared.Family.TheVariants.{Register, Entry, BinaryMemory}
use Rattle.term_core_spec.specs.declared.Variable.{Variable}
use Rattle.term_core_spec.specs.Value.{Value, Number, Bytes, Assignment}
use Rattle.memory_spec.specs.Memory.{Memory, byte_at}
use Rattle.rv_machine_spec.specs.Machine.{Machine, read_register}

-- a machine register
abbrev pub register : ℕ → Variable
register r = record { family = Register; index = r; instance = 0; sort = sort.Word W32 }

-- what that register was when the function began
abbrev pub entry_register : ℕ → Variable
entry_register r = record { family = Entry; index = r; instance = 0; sort = sort.Word W32 }

-- the index of a table by which a jump goes, from its bound to the jump: beside the machine's registers
abbrev pub table_index : Variable
table_index = register 32

-- the memory of the binary
abbrev pub memory : Variable
memory = record { family = BinaryMemory; index = 0; instance = 0; sort = sort.Memory }

-- the machine's memory of bytes as the value of a memory variable: at each address the byte that a load reads there
abbrev pub memory_value : Memory → Value
memory_value bytes = Bytes (byte_at bytes)

-- the variables have the machine's registers, x1 to x31, and its memory
pub record Alike (m : Machine) (values : Assignment) : Type 0 where
  pub registers : (r : ℕ) → r ≢ 0 → r < 32 → values (register r) ≡ Number W32 (read_register m r)
  pub bytes : values memory ≡ memory_value m.memory
