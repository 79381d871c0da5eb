-- Loads whose memory and address are those of terms that are there.
use Rattle.std.specs.Prelude.{◌≡◌, true, [], ◌∷◌, Some}
use Rattle.term_core_spec.specs.declared.Width.TheVariants.{W32}
use Rattle.term_core_spec.specs.declared.Sort.TheVariants as sort
use Rattle.term_core_spec.specs.declared.BinaryOperator.TheVariants as binary
use Rattle.term_core_spec.specs.Term.{Term, Binary}
use Rattle.term_core_spec.specs.Sort.{sort_of}
use Rattle.bit_blast_spec.specs.Goal.{Table, is_there}

-- a load from a memory; its address has bits in the table
pub record Loaded (table : Table) (memory address : Term) : Type 0 where
  pub from : sort_of memory ≡ Some sort.Memory
  pub at : sort_of address ≡ Some (sort.Word W32)
  pub there : is_there address table ≡ true

abbrev pub IfLoaded : Table → Term → Type 0
IfLoaded table (Binary binary.Load memory address) = Loaded table memory address
IfLoaded table term = Unit {0}

-- each load among some entries of a table is so
abbrev pub AllLoaded : Table → (entries : Table) → Type 0
AllLoaded table [] = Unit {0}
AllLoaded table (entry ∷ entries) = IfLoaded table entry.0 × AllLoaded table entries
