-- Gates that are no claims settle with their values.
use Rattle.std.proofs.Common.{◌+◌, ℕ, List, [], ◌∷◌, ◌++◌}
use Rattle.clause_check_spec.specs.Clause.{Valuation}
use Rattle.term_core_spec.specs.Value.{Assignment}
use Rattle.bit_blast_spec.specs.Gates.{Gate, Truth, Bit, And, Xor, Mux, Majority, Claim, next, last_of}
use Rattle.bit_blast_laws.specs.Meaning.{AllHold}
use Rattle.bit_blast_laws.specs.Reads.{Reads}
use Rattle.bit_blast_laws.proofs.Settled.{AllSettle}
use Rattle.bit_blast_laws.proofs.Every.{Every, OfGates}

-- no gate is a claim
abbrev pub IsNoClaim : Gate → Type 0
IsNoClaim (Claim clause) = ⊥
IsNoClaim gate = Unit {0}

abbrev pub NoClaims : List Gate → Type 0
NoClaims = Every IsNoClaim

pub bare : OfGates IsNoClaim
bare = record { and = λ a b. tt; xor = λ a b. tt; mux = λ c a b. tt; majority = λ a b c. tt }

-- gates without claims that settle have their values
pub bare_hold : (assignment : Assignment) (values : Valuation) (last : ℕ) (gates : List Gate) → NoClaims gates → AllSettle assignment values last gates → AllHold values last gates
bare_hold assignment values last [] h all = tt
bare_hold assignment values last (Truth ∷ gates) h all = (all.0, bare_hold assignment values (last + 1) gates h.1 all.1)
bare_hold assignment values last (Bit term index ∷ gates) h all = (tt, bare_hold assignment values (last + 1) gates h.1 all.1)
bare_hold assignment values last (And a b ∷ gates) h all = (all.0, bare_hold assignment values (last + 1) gates h.1 all.1)
bare_hold assignment values last (Xor a b ∷ gates) h all = (all.0, bare_hold assignment values (last + 1) gates h.1 all.1)
bare_hold assignment values last (Mux c a b ∷ gates) h all = (all.0, bare_hold assignment values (last + 1) gates h.1 all.1)
bare_hold assignment values last (Majority a b c ∷ gates) h all = (all.0, bare_hold assignment values (last + 1) gates h.1 all.1)
bare_hold assignment values last (Claim clause ∷ gates) h all = absurd h.0

-- what settles has the bits of the assignment
pub settled_reads : (assignment : Assignment) (values : Valuation) (last : ℕ) (gates : List Gate) → AllSettle assignment values last gates → Reads assignment values last gates
settled_reads assignment values last [] all = tt
settled_reads assignment values last (Truth ∷ gates) all = (tt, settled_reads assignment values (last + 1) gates all.1)
settled_reads assignment values last (Bit term index ∷ gates) all = ((λ read. all.0), settled_reads assignment values (last + 1) gates all.1)
settled_reads assignment values last (And a b ∷ gates) all = (tt, settled_reads assignment values (last + 1) gates all.1)
settled_reads assignment values last (Xor a b ∷ gates) all = (tt, settled_reads assignment values (last + 1) gates all.1)
settled_reads assignment values last (Mux c a b ∷ gates) all = (tt, settled_reads assignment values (last + 1) gates all.1)
settled_reads assignment values last (Majority a b c ∷ gates) all = (tt, settled_reads assignment values (last + 1) gates all.1)
settled_reads assignment values last (Claim clause ∷ gates) all = (tt, settled_reads assignment values last gates all.1)

pub settled_parts : (assignment : Assignment) (values : Valuation) (last : ℕ) (gates more : List Gate) → AllSettle assignment values last (gates ++ more)
    → AllSettle assignment values last gates × AllSettle assignment values (last_of last gates) more
settled_parts assignment values last [] more all = (tt, all)
settled_parts assignment values last (gate ∷ gates) more all =
    let parts = settled_parts assignment values (next last gate) gates more all.1 in ((all.0, parts.0), parts.1)

pub hold_both : (values : Valuation) (last : ℕ) (gates more : List Gate) → AllHold values last gates → AllHold values (last_of last gates) more
    → AllHold values last (gates ++ more)
hold_both values last [] more h k = k
hold_both values last (gate ∷ gates) more h k = (h.0, hold_both values (next last gate) gates more h.1 k)
