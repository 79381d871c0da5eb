-- Gates that are no bits of variables or loads.
use Rattle.std.proofs.Common.{◌≡◌, ◌+◌, ℕ, true, List, [], ◌∷◌, ◌++◌}
use Rattle.clause_check_spec.specs.Clause.{Valuation}
use Rattle.term_core_spec.specs.Value.{Assignment}
use Rattle.bit_blast_spec.specs.Gates.{Gate, Truth, Bit, And, Xor, Mux, Majority, Claim, next, last_of}
use Rattle.bit_blast_laws.specs.Reads.{is_read, Reads}
use Rattle.bit_blast_laws.proofs.Every.{Every, OfGates}

abbrev pub IsSilent : Gate → Type 0
IsSilent (Bit term index) = is_read term ≡ true → ⊥
IsSilent gate = Unit {0}

abbrev pub NoReads : List Gate → Type 0
NoReads = Every IsSilent

pub silent : OfGates IsSilent
silent = record { and = λ a b. tt; xor = λ a b. tt; mux = λ c a b. tt; majority = λ a b c. tt }

-- nothing is reconstructed of silent gates
pub silent_reads : (assignment : Assignment) (values : Valuation) (last : ℕ) (gates : List Gate) → NoReads gates → Reads assignment values last gates
silent_reads assignment values last [] h = tt
silent_reads assignment values last (Truth ∷ gates) h = (tt, silent_reads assignment values (last + 1) gates h.1)
silent_reads assignment values last (Bit term index ∷ gates) h = ((λ read. absurd (h.0 read)), silent_reads assignment values (last + 1) gates h.1)
silent_reads assignment values last (And a b ∷ gates) h = (tt, silent_reads assignment values (last + 1) gates h.1)
silent_reads assignment values last (Xor a b ∷ gates) h = (tt, silent_reads assignment values (last + 1) gates h.1)
silent_reads assignment values last (Mux c a b ∷ gates) h = (tt, silent_reads assignment values (last + 1) gates h.1)
silent_reads assignment values last (Majority a b c ∷ gates) h = (tt, silent_reads assignment values (last + 1) gates h.1)
silent_reads assignment values last (Claim clause ∷ gates) h = (tt, silent_reads assignment values last gates h.1)

pub reads_both : (assignment : Assignment) (values : Valuation) (last : ℕ) (gates more : List Gate) → Reads assignment values last gates
    → Reads assignment values (last_of last gates) more → Reads assignment values last (gates ++ more)
reads_both assignment values last [] more h k = k
reads_both assignment values last (gate ∷ gates) more h k = (h.0, reads_both assignment values (next last gate) gates more h.1 k)
