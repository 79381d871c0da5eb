-- What a run's state has to be for values to be of their types.
use Rattle.std.specs.Prelude.{◌≡◌, ℕ, ◌<◌, ◌^◌, ℤ, IsTrue, List, slice_get, Some}
use Rattle.memory_spec.specs.Memory.{Memory, byte_at}
use Rattle.c_types_spec.specs.declared.Scalar.{Scalar}
use Rattle.c_types_spec.specs.declared.TheConstants.{POINTER_WIDTH}
use Rattle.c_types_spec.specs.Values.{is_of}
use Rattle.c_run_spec.specs.Setting.{Setting}
use Rattle.c_run_spec.specs.Evaluation.{Locals}

-- each local that has a value has one of its type
abbrev pub LocalsHaveTypes : (types : List Scalar) → Locals → Type 0
LocalsHaveTypes types locals = (local : ℕ) (type : Scalar) (v : ℤ) → slice_get types local ≡ Some type → slice_get locals local ≡ Some (Some v) → IsTrue (is_of type v)

-- what a memory has are bytes
abbrev pub HasBytes : Memory → Type 0
HasBytes memory = (address : ℕ) → byte_at memory address < 2 ^ 8

-- globals are at addresses
abbrev pub HasAddresses : Setting → Type 0
HasAddresses setting = (name : List ℕ) (address : ℕ) → setting.globals name ≡ Some address → address < 2 ^ POINTER_WIDTH
