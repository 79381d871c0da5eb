-- What an assignment, the values of the variables, makes of gates and of words.
use Rattle.std.specs.Prelude.{◌≡◌, ◌≤◌, ℕ, ◌+◌, ◌*◌, ◌&&◌, ◌||◌, not, if◌then◌else◌, Bool, true, false, List, [], ◌∷◌}
use Rattle.clause_check_spec.specs.declared.Literal.{Literal}
use Rattle.clause_check_spec.specs.Clause.{Clause, Valuation, holds, satisfies_clause, satisfies}
use Rattle.bit_blast_spec.specs.Gates.{Gate, Truth, Bit, And, Xor, Mux, Majority, Claim, next, clauses_from, Build}
use Rattle.bit_blast_spec.specs.Circuits.{Bits}

-- the assignment satisfies the clauses of gates that were made from a number on
abbrev pub Satisfies : Valuation → (last : ℕ) → List Gate → Type 0
Satisfies values last gates = satisfies values (clauses_from last gates) ≡ true

abbrev pub digit : Bool → ℕ
digit bit = if bit then 1 else 0

-- the number of a word
abbrev pub number_of : Valuation → Bits → ℕ
number_of values [] = 0
number_of values (bit ∷ bits) = digit (holds values bit) + 2 * number_of values bits

-- one of them alone
abbrev pub differ : Bool → Bool → Bool
differ a b = if a then not b else b

-- two of them at least
abbrev pub majority : Bool → Bool → Bool → Bool
majority a b c = (a && b) || ((a && c) || (b && c))

-- the variable has the value that its gate gives it
abbrev pub HasGateValue : Valuation → (variable : ℕ) → Gate → Type 0
HasGateValue values o Truth = values o ≡ true
HasGateValue values o (Bit term index) = Unit {0}
HasGateValue values o (And a b) = values o ≡ (holds values a && holds values b)
HasGateValue values o (Xor a b) = values o ≡ differ (holds values a) (holds values b)
HasGateValue values o (Mux c a b) = values o ≡ (if holds values c then holds values a else holds values b)
HasGateValue values o (Majority a b c) = values o ≡ majority (holds values a) (holds values b) (holds values c)
HasGateValue values o (Claim clause) = satisfies_clause values clause ≡ true

-- each of the gates does
abbrev pub AllHold : Valuation → (last : ℕ) → List Gate → Type 0
AllHold values last [] = Unit {0}
AllHold values last (gate ∷ gates) = HasGateValue values (last + 1) gate × AllHold values (next last gate) gates

-- where the clauses of a circuit are satisfied its word has this number
abbrev pub HasNumber : Valuation → (last : ℕ) → (circuit : Build Bits) → ℕ → Type 0
HasNumber values last circuit number = Satisfies values last (circuit last).gates → number_of values (circuit last).out ≡ number

-- where the clauses of a circuit are satisfied its bit has this value
abbrev pub HasValue : Valuation → (last : ℕ) → (circuit : Build Literal) → Bool → Type 0
HasValue values last circuit value = Satisfies values last (circuit last).gates → holds values (circuit last).out ≡ value
