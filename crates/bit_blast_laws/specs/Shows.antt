-- Bits that show a value.
use Rattle.std.specs.Prelude.{◌≡◌, ℕ, List, [], ◌∷◌, length}
use Rattle.clause_check_spec.specs.Clause.{Valuation}
use Rattle.term_core_spec.specs.Term.{Term}
use Rattle.term_core_spec.specs.Sort.{bits}
use Rattle.term_core_spec.specs.Value.{Value, Truth, Number, Bytes, Assignment, value}
use Rattle.bit_blast_spec.specs.Circuits.{Bits}
use Rattle.bit_blast_spec.specs.Goal.{Table}
use Rattle.bit_blast_laws.specs.Meaning.{digit, number_of}

-- under values of the variables the bits are those of a value; a memory has none
abbrev pub Shows : Valuation → Value → Bits → Type 0
Shows values (Truth truth) found = (length found ≡ 1) × (number_of values found ≡ digit truth)
Shows values (Number width number) found = (length found ≡ bits width) × (number_of values found ≡ number)
Shows values (Bytes bytes) found = Unit {0}

-- so are those of each term of a table
abbrev pub AllShow : Valuation → Assignment → Table → Type 0
AllShow values assignment [] = Unit {0}
AllShow values assignment (entry ∷ table) = Shows values (value assignment entry.0) entry.1 × AllShow values assignment table
