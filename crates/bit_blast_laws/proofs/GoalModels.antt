-- Values under which all gates of the terms of a goal have their values.
use Rattle.std.proofs.Common.{◌≡◌, ℕ, true, false, [], ◌∷◌, ◌++◌, Some}
use Rattle.clause_check_spec.specs.Clause.{Valuation, negation}
use Rattle.term_core_spec.specs.declared.Sort.TheVariants as sort
use Rattle.term_core_spec.specs.Term.{Term}
use Rattle.term_core_spec.specs.Sort.{sort_of}
use Rattle.term_core_spec.specs.Value.{Assignment, IsAssignment}
use Rattle.bit_blast_spec.specs.Gates.{last_of, claims}
use Rattle.bit_blast_spec.specs.Goal.{bits_in, bit_of, visit, tie_memories, memories_of, loads_of, goal_gates}
use Rattle.bit_blast_laws.specs.Meaning.{AllHold}
use Rattle.bit_blast_laws.specs.Shows.{AllShow}
use Rattle.bit_blast_laws.proofs.Visits.{Takes, all_taken}
use Rattle.bit_blast_laws.proofs.Goals.{goal_made}
use Rattle.bit_blast_laws.proofs.Settled.{settled}
use Rattle.bit_blast_laws.proofs.Settling.{gates_settle}
use Rattle.bit_blast_laws.proofs.Bare.{settled_reads, settled_parts}
use Rattle.bit_blast_laws.proofs.Complete.{Completes, all_complete}

-- the terms of any goal
pub terms_hold : (assignment : Assignment) (goal : Term) → IsAssignment assignment → sort_of goal ≡ Some sort.Truth
    → (values : Valuation) × (values 1 ≡ true) × AllHold values 1 (visit goal [] 1).gates × AllShow values assignment (visit goal [] 1).out
unfolding goal_gates Completes Takes
terms_hold assignment goal h e =
    let gates = (goal_gates goal 0).gates in
    let values = settled assignment (λ (variable : ℕ). false) 0 gates in
    let settle = gates_settle assignment (λ variable. false) 0 gates (goal_made goal).gates in
    let visited = visit goal [] 1 in
    let second = last_of 1 visited.gates in
    let loads = loads_of visited.out visited.out in
    let rest = (tie_memories (memories_of loads) loads second).gates ++ claims ((negation (bit_of (bits_in visited.out goal)) ∷ []) ∷ []) in
    let parts = settled_parts assignment values 1 visited.gates rest settle.1 in
    let own = all_complete assignment values settle.0 h goal sort.Truth e [] 1 tt parts.0 in
    let taken = all_taken values assignment settle.0 h goal sort.Truth e [] 1 tt (record { hold = own; read = settled_reads assignment values 1 visited.gates parts.0 }) in
    (values, settle.0, own, taken.shows)
