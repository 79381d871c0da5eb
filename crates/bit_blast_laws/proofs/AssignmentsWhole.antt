-- Models of whole goals are reconstructed.
use Rattle.std.proofs.Common.{◌≡◌, ℕ, true, false, List, [], ◌∷◌, ◌++◌, Some, sym}
use Rattle.std.specs.Prelude.{filter}
use Rattle.std.proofs.lemmas.List.{append-nil}
use Rattle.clause_check_spec.specs.Clause.{Valuation, satisfies, negation}
use Rattle.term_core_spec.specs.declared.Sort.TheVariants as sort
use Rattle.term_core_spec.specs.Term.{Term}
use Rattle.term_core_spec.specs.Sort.{sort_of}
use Rattle.term_core_spec.specs.Value.{Truth, Assignment, IsAssignment, value}
use Rattle.bit_blast_spec.specs.Gates.{last_of, claims}
use Rattle.bit_blast_spec.specs.Circuits.{equal_bits}
use Rattle.bit_blast_spec.specs.Goal.{Load, bits_in, bit_of, visit, equal_where, is_of_memory, tie, tie_all, tie_memories, memories_of, loads_of, goal_gates, cnf_of}
use Rattle.bit_blast_laws.proofs.Gates.{all_hold, hold_parts}
use Rattle.bit_blast_laws.specs.Reads.{Reads}
use Rattle.bit_blast_laws.proofs.TermsWhole.{goal_is_false}
use Rattle.bit_blast_laws.proofs.GoalModels.{terms_hold}
use Rattle.bit_blast_laws.proofs.Every.{every-append, every_equal, every_claim}
use Rattle.bit_blast_laws.proofs.Gathered.{goal_loaded}
use Rattle.bit_blast_laws.proofs.Ties.{AllMean, loads_mean}
use Rattle.bit_blast_laws.specs.Back.{read_back, TableLoadsFromVariables}
use Rattle.bit_blast_laws.proofs.Silent.{IsSilent, NoReads, silent, silent_reads, reads_both}
use Rattle.bit_blast_laws.proofs.Alike.{AllLong, byte_found}
use Rattle.bit_blast_laws.proofs.Reading.{is_assignment, Found}
use Rattle.bit_blast_laws.proofs.Backs.{Backs, all_back}

silent_tie : (load : Load) (loads : List Load) (last : ℕ) → NoReads (tie load loads last).gates
unfolding tie
silent_tie load [] last = tt
silent_tie load (later ∷ loads) last =
    let same = equal_bits load.address later.address last in
    let first = last_of last same.gates in
    let rules = equal_where same.out load.byte later.byte in
    let rest = tie load loads (last_of first (claims rules)) in
    every-append IsSilent same.gates (claims rules ++ rest.gates) (every_equal IsSilent silent load.address later.address last)
    (every-append IsSilent (claims rules) rest.gates (every_claim IsSilent silent rules (λ clause. tt)) (silent_tie load loads (last_of first (claims rules))))

silent_ties : (loads : List Load) (last : ℕ) → NoReads (tie_all loads last).gates
unfolding tie_all
silent_ties [] last = tt
silent_ties (load ∷ loads) last =
    let own = tie load loads last in
    let after = last_of last own.gates in
    every-append IsSilent own.gates (tie_all loads after).gates (silent_tie load loads last) (silent_ties loads after)

silent_memories : (memories : List Term) (loads : List Load) (last : ℕ) → NoReads (tie_memories memories loads last).gates
unfolding tie_memories
silent_memories [] loads last = tt
silent_memories (memory ∷ memories) loads last =
    let own = tie_all (filter (is_of_memory memory) loads) last in
    let after = last_of last own.gates in
    every-append IsSilent own.gates (tie_memories memories loads after).gates (silent_ties (filter (is_of_memory memory) loads) last) (silent_memories memories loads after)

-- loads that evaluate to what they load have addresses of 32 bits and bytes of 8
means_long : (values : Valuation) (assignment : Assignment) (loads : List Load) → AllMean values assignment loads → AllLong loads
unfolding AllMean
means_long values assignment [] all = tt
means_long values assignment (load ∷ loads) all = ((all.0.long_address, all.0.long_byte), means_long values assignment loads all.1)

-- the loads of a goal have addresses of 32 bits and bytes of 8, whatever its values are
pub goal_long : (goal : Term) → sort_of goal ≡ Some sort.Truth → AllLong (loads_of (visit goal [] 1).out (visit goal [] 1).out)
goal_long goal e =
    let table = (visit goal [] 1).out in
    let assignment = read_back (λ (variable : ℕ). false) [] in
    let h = is_assignment (λ (variable : ℕ). false) [] in
    let model = terms_hold assignment goal h e in
    means_long model.0 assignment (loads_of table table) (loads_mean model.0 assignment h table table model.3 (goal_loaded goal sort.Truth e) model.3)

pub goal_reads : (values : Valuation) (goal : Term) → sort_of goal ≡ Some sort.Truth → TableLoadsFromVariables (visit goal [] 1).out
    → satisfies values (cnf_of goal).clauses ≡ true → Reads (read_back values (visit goal [] 1).out) values 0 (goal_gates goal 0).gates
unfolding cnf_of goal_gates Backs
goal_reads values goal e from satisfied =
    let visited = visit goal [] 1 in
    let table = visited.out in
    let second = last_of 1 visited.gates in
    let loads = loads_of table table in
    let tied = tie_memories (memories_of loads) loads second in
    let last = claims ((negation (bit_of (bits_in table goal)) ∷ []) ∷ []) in
    let hold = all_hold values 0 (goal_gates goal 0).gates satisfied in
    let parts = hold_parts values 1 visited.gates (tied.gates ++ last) hold.1 in
    let more = hold_parts values second tied.gates last parts.1 in
    let known : Found values table =
    λ before rest memory address byte is. byte_found values hold.0 table before rest memory address byte second is (goal_long goal e) more.0
    in
    let own = all_back values table hold.0 from known goal sort.Truth e [] 1 tt ([], sym (append-nil table)) parts.0 in (
      tt,
      reads_both (read_back values table) values 1 visited.gates (tied.gates ++ last) own
          (silent_reads (read_back values table) values second (tied.gates ++ last)
          (every-append IsSilent tied.gates last (silent_memories (memories_of loads) loads second) (every_claim IsSilent silent ((negation (bit_of (bits_in table goal)) ∷ []) ∷ []) (λ clause. tt)))),
    )

pub read_both : (values : Valuation) (goal : Term) → sort_of goal ≡ Some sort.Truth → TableLoadsFromVariables (visit goal [] 1).out
    → satisfies values (cnf_of goal).clauses ≡ true
    → IsAssignment (read_back values (visit goal [] 1).out) × Reads (read_back values (visit goal [] 1).out) values 0 (goal_gates goal 0).gates
read_both values goal e from satisfied = (is_assignment values (visit goal [] 1).out, goal_reads values goal e from satisfied)

pub false_by_satisfied : (values : Valuation) (goal : Term) → sort_of goal ≡ Some sort.Truth → TableLoadsFromVariables (visit goal [] 1).out
    → satisfies values (cnf_of goal).clauses ≡ true → (assignment : Assignment) × IsAssignment assignment × (value assignment goal ≡ Truth false)
false_by_satisfied values goal e from satisfied =
    let back = read_back values (visit goal [] 1).out in
    let h = is_assignment values (visit goal [] 1).out in
    (back, h, goal_is_false values back goal h e satisfied (goal_reads values goal e from satisfied))
