-- The fixed bytes laid over the memories of the source.
use Rattle.std.specs.Prelude.{◌≡◌, ℕ, if◌then◌else◌, true, List, Some, unwrap_or}
use Rattle.term_core_spec.specs.declared.Width.TheVariants.{W8, W32}
use Rattle.term_core_spec.specs.Term.{Term}
use Rattle.term_core_spec.specs.Value.{Value, Truth, Number, Bytes, Assignment, value}
use Rattle.memory_spec.specs.Runs.{Run, fixed_byte}
use Rattle.term_norm_spec.specs.Patterns.{is_of_source}
use Rattle.mem_terms_spec.specs.Flat.{VariableLoad, is_in, loads_of}
use Rattle.mem_terms_spec.specs.Assignments.{term_of}

-- a memory with the fixed bytes in place of its own
abbrev pub with_fixed : List Run → Value → Value
with_fixed runs (Bytes memory) = Bytes (λ address. unwrap_or (fixed_byte runs address) (memory address))
with_fixed runs (Truth truth) = Truth truth
with_fixed runs (Number width number) = Number width number

abbrev pub held : List Run → Assignment → Assignment
held runs assignment = λ v. if is_of_source v.family then with_fixed runs (assignment v) else assignment v

-- each load in a term that is of a memory of the source at a fixed address gives the fixed byte
abbrev pub ReadsFixed : List Run → Assignment → Term → Type 0
ReadsFixed runs assignment t =
    (l : VariableLoad) → is_in l (loads_of t) ≡ true → is_of_source l.memory.family ≡ true
    → (address byte : ℕ) → value assignment l.address ≡ Number W32 address → fixed_byte runs address ≡ Some byte
    → value assignment (term_of l) ≡ Number W8 byte
