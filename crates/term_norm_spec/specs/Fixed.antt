-- The fixed bytes: bytes that every memory of the source holds, as runs.
use Rattle.std.specs.Prelude.{◌≡◌, ℕ, List, Some}
use Rattle.memory_spec.specs.Runs.{Run, fixed_byte}
use Rattle.term_core_spec.specs.declared.Family.TheVariants.{SourceMemory}
use Rattle.term_core_spec.specs.declared.Variable.{Variable}
use Rattle.term_core_spec.specs.Value.{Bytes, Assignment}

-- each memory of the source holds the fixed bytes
abbrev pub HoldsFixed : List Run → Assignment → Type 0
HoldsFixed runs assignment =
    (v : Variable) → v.family ≡ SourceMemory → (memory : ℕ → ℕ) → assignment v ≡ Bytes memory
    → (address byte : ℕ) → fixed_byte runs address ≡ Some byte → memory address ≡ byte
