-- Bits of variables and of loads that are those of their values.
use Rattle.std.specs.Prelude.{◌≡◌, ◌==◌, ◌+◌, ◌/◌, ◌%◌, ◌^◌, ℕ, Bool, true, false, List, [], ◌∷◌}
use Rattle.clause_check_spec.specs.Clause.{Valuation}
use Rattle.term_core_spec.specs.declared.BinaryOperator.TheVariants as binary
use Rattle.term_core_spec.specs.Term.{Term, Leaf, Binary}
use Rattle.term_core_spec.specs.Value.{Value, Truth, Number, Bytes, Assignment, value}
use Rattle.bit_blast_spec.specs.Gates.{Gate, Bit, next}

-- the bit at an index of a value, the lowest at 0
abbrev pub bit_of_value : Value → (index : ℕ) → Bool
bit_of_value (Truth truth) index = truth
bit_of_value (Number width number) index = number / 2 ^ index % 2 == 1
bit_of_value (Bytes bytes) index = false

abbrev pub is_read : Term → Bool
is_read (Leaf atom) = true
is_read (Binary binary.Load memory address) = true
is_read term = false

-- the variable of a bit of a variable or of a load has the value of that bit
abbrev pub ReadsGate : Assignment → Valuation → (variable : ℕ) → Gate → Type 0
ReadsGate assignment values o (Bit term index) = is_read term ≡ true → values o ≡ bit_of_value (value assignment term) index
ReadsGate assignment values o gate = Unit {0}

abbrev pub Reads : Assignment → Valuation → (last : ℕ) → List Gate → Type 0
Reads assignment values last [] = Unit {0}
Reads assignment values last (gate ∷ gates) = ReadsGate assignment values (last + 1) gate × Reads assignment values (next last gate) gates
