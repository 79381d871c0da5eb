-- Runs whose memory always holds fixed bytes.
use Rattle.std.specs.Prelude.{ℕ, ◌==◌, Bool, true, false, Option, Some, None}
use Rattle.term_core_spec.specs.declared.Variable.{Variable}
use Rattle.term_core_spec.specs.Value.{Value, Truth, Number, Bytes}
use Rattle.graph_core_spec.specs.TransitionSystem.{Always}
use Rattle.graph_core_spec.specs.Graph.{Graphs}
use Rattle.graph_core_spec.specs.Run.{State, Running, Returned, Failed, system_of}

-- the value is a memory that has the byte at the address, where one is fixed there
abbrev pub has_byte : Value → (address : ℕ) → Option ℕ → Bool
has_byte value address None = true
has_byte (Bytes bytes) address (Some byte) = bytes address == byte
has_byte (Truth truth) address (Some byte) = false
has_byte (Number width number) address (Some byte) = false

-- the memory of this variable has the byte that is fixed at the address; a failed state has no memory
abbrev pub holds_byte : (fixed : ℕ → Option ℕ) → (memory : Variable) → (address : ℕ) → State → Bool
holds_byte fixed memory address (Running g n values below) = has_byte (values memory) address (fixed address)
holds_byte fixed memory address (Returned values) = has_byte (values memory) address (fixed address)
holds_byte fixed memory address Failed = true

-- it holds the fixed bytes now and after every number of steps
abbrev pub AlwaysHoldsFixed : Graphs → (outermost : ℕ) → (fixed : ℕ → Option ℕ) → (memory : Variable) → State → Type 0
AlwaysHoldsFixed graphs outermost fixed memory state = Always (system_of graphs outermost) (holds_byte fixed memory) state
