-- Values that gates are given one after the other.
use Rattle.std.specs.Prelude.{◌≡◌, ◌==◌, ◌+◌, ◌&&◌, if◌then◌else◌, ℕ, Bool, true, List, [], ◌∷◌}
use Rattle.clause_check_spec.specs.Clause.{Valuation, holds}
use Rattle.term_core_spec.specs.Value.{Assignment, value}
use Rattle.bit_blast_spec.specs.Gates.{Gate, Truth, Bit, And, Xor, Mux, Majority, Claim, next}
use Rattle.bit_blast_laws.specs.Meaning.{differ, majority, HasGateValue}
use Rattle.bit_blast_laws.specs.Reads.{bit_of_value}

abbrev pub with_value : Valuation → (variable : ℕ) → Bool → Valuation
with_value values variable value = λ other. if other == variable then value else values other

-- the values with that of the next variable, if the gate makes one; bits of terms are those of their values
abbrev pub given : Assignment → Valuation → (last : ℕ) → Gate → Valuation
given assignment values last Truth = with_value values (last + 1) true
given assignment values last (Bit term index) = with_value values (last + 1) (bit_of_value (value assignment term) index)
given assignment values last (And a b) = with_value values (last + 1) (holds values a && holds values b)
given assignment values last (Xor a b) = with_value values (last + 1) (differ (holds values a) (holds values b))
given assignment values last (Mux c a b) = with_value values (last + 1) (if holds values c then holds values a else holds values b)
given assignment values last (Majority a b c) = with_value values (last + 1) (majority (holds values a) (holds values b) (holds values c))
given assignment values last (Claim clause) = values

abbrev pub settled : Assignment → Valuation → (last : ℕ) → List Gate → Valuation
settled assignment values last [] = values
settled assignment values last (gate ∷ gates) = settled assignment (given assignment values last gate) (next last gate) gates

-- a gate has its value, and a bit that of its term; of claims nothing is said
abbrev pub Settles : Assignment → Valuation → (variable : ℕ) → Gate → Type 0
Settles assignment values o (Bit term index) = values o ≡ bit_of_value (value assignment term) index
Settles assignment values o (Claim clause) = Unit {0}
Settles assignment values o gate = HasGateValue values o gate

abbrev pub AllSettle : Assignment → Valuation → (last : ℕ) → List Gate → Type 0
AllSettle assignment values last [] = Unit {0}
AllSettle assignment values last (gate ∷ gates) = Settles assignment values (last + 1) gate × AllSettle assignment values (next last gate) gates
