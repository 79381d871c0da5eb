-- Memories by the values of a bank's terms.
use Rattle.std.specs.Prelude.{ℕ, ◌==◌, if◌then◌else◌, List, [], ◌∷◌, filter}
use Rattle.term_core_spec.specs.declared.Variable.{Variable}
use Rattle.term_core_spec.specs.Value as spec
use Rattle.term_core_spec.specs.Value.{low_bits}
use Rattle.term_bank.specs.Nodes.{value_at}
use Rattle.mem_terms_spec.specs.Assignments.{number_of}
use Rattle.mem_terms.specs.declared.ids.LoadIds.{LoadIds}
use Rattle.mem_terms.specs.Ids.{is_load_from}

-- the byte of the first of these loads at an address, 0 where there is none
unfoldable pub first_among : List spec.Value → (address : ℕ) → List LoadIds → ℕ
first_among values address [] = 0
first_among values address (l ∷ loads) =
    if low_bits 32 (number_of (value_at values l.address)) == address
    then low_bits 8 (number_of (value_at values l.byte)) else first_among values address loads

-- the memory that gives its loads their bytes
abbrev pub memory_among : List spec.Value → List LoadIds → Variable → spec.Value
memory_among values loads v = spec.Bytes (λ address. first_among values address (filter (is_load_from v) loads))
