-- A model of the clauses of a goal that is false, loads included.
use Rattle.std.proofs.Common.{◌≡◌, ℕ, Bool, true, false, [], ◌∷◌, ◌++◌, Some, refl, ap, ◌∙◌, subst}
use Rattle.std.specs.Prelude.{not, ◌||◌}
use Rattle.clause_check_spec.specs.Clause.{Valuation, holds, satisfies, negation}
use Rattle.term_core_spec.specs.declared.Sort.TheVariants as sort
use Rattle.term_core_spec.specs.Term.{Term}
use Rattle.term_core_spec.specs.Sort.{sort_of}
use Rattle.term_core_spec.specs.Value.{Truth, Assignment, IsAssignment, value}
use Rattle.term_core_spec.proofs.Soundness.{value-sort, at_truth}
use Rattle.bit_blast_spec.specs.Gates.{last_of, claims}
use Rattle.bit_blast_spec.specs.Goal.{bits_in, bit_of, visit, tie_memories, memories_of, loads_of, goal_gates, cnf_of}
use Rattle.bit_blast_laws.specs.Meaning.{AllHold}
use Rattle.bit_blast_laws.proofs.Gates.{all_satisfied, holds-negation}
use Rattle.bit_blast_laws.specs.Shows.{Shows}
use Rattle.bit_blast_laws.specs.Reads.{Reads}
use Rattle.bit_blast_laws.proofs.Unaries.{only_bit}
use Rattle.bit_blast_laws.proofs.Tables.{shown_there}
use Rattle.bit_blast_laws.proofs.Visits.{Takes, all_taken}
use Rattle.bit_blast_laws.proofs.Goals.{goal_made}
use Rattle.bit_blast_laws.proofs.Settled.{settled, AllSettle}
use Rattle.bit_blast_laws.proofs.Settling.{gates_settle}
use Rattle.bit_blast_laws.proofs.Bare.{settled_reads, settled_parts, hold_both}
use Rattle.bit_blast_laws.proofs.Complete.{Completes, all_complete}
use Rattle.bit_blast_laws.proofs.Gathered.{goal_loaded}
use Rattle.bit_blast_laws.proofs.Ties.{loads_mean, memories_settle}

denied : (b : Bool) → b ≡ true → (b || false) ≡ true
denied true e = refl
denied false e = cc

pub whole_holds : (values : Valuation) (assignment : Assignment) (goal : Term) → IsAssignment assignment → sort_of goal ≡ Some sort.Truth
    → value assignment goal ≡ Truth false → AllSettle assignment values 0 (goal_gates goal 0).gates → AllHold values 0 (goal_gates goal 0).gates
unfolding goal_gates Completes Takes
whole_holds values assignment goal h e is_false settle =
    let visited = visit goal [] 1 in
    let second = last_of 1 visited.gates in
    let loads = loads_of visited.out visited.out in
    let tied = tie_memories (memories_of loads) loads second in
    let found = bits_in visited.out goal in
    let last = claims ((negation (bit_of found) ∷ []) ∷ []) in
    let truth = settle.0 in
    let parts = settled_parts assignment values 1 visited.gates (tied.gates ++ last) settle.1 in
    let rest = settled_parts assignment values second tied.gates last parts.1 in
    let own = all_complete assignment values truth h goal sort.Truth e [] 1 tt parts.0 in
    let taken = all_taken values assignment truth h goal sort.Truth e [] 1 tt (record { hold = own; read = settled_reads assignment values 1 visited.gates parts.0 }) in
    let mean = loads_mean values assignment h visited.out visited.out taken.shows (goal_loaded goal sort.Truth e) taken.shows in
    let ties = memories_settle values assignment truth (memories_of loads) loads second mean rest.0 in
    let shows : Shows values (Truth false) found = subst (λ u. Shows values u found) is_false (shown_there values assignment goal visited.out taken.shows taken.there) in
    let bit = only_bit values found false shows.0 shows.1 in
    let off : holds values (bit_of found) ≡ false = ap (λ l. holds values (bit_of l)) bit.1 ∙ bit.2 in
    let satisfied = denied (holds values (negation (bit_of found))) (holds-negation values (bit_of found) ∙ ap not off) in
    (truth, hold_both values 1 visited.gates (tied.gates ++ last) own (hold_both values second tied.gates last ties (satisfied, tt)))

pub model_of : (assignment : Assignment) (goal : Term) → IsAssignment assignment → sort_of goal ≡ Some sort.Truth → value assignment goal ≡ Truth false
    → (values : Valuation) × (satisfies values (cnf_of goal).clauses ≡ true) × Reads assignment values 0 (goal_gates goal 0).gates
unfolding cnf_of
model_of assignment goal h e is_false =
    let gates = (goal_gates goal 0).gates in
    let values = settled assignment (λ (variable : ℕ). false) 0 gates in
    let settle = gates_settle assignment (λ variable. false) 0 gates (goal_made goal).gates in
    (values, all_satisfied values 0 gates (whole_holds values assignment goal h e is_false settle), settled_reads assignment values 0 gates settle)

-- where the clauses have no model
pub true_by_unsatisfied : (goal : Term) → sort_of goal ≡ Some sort.Truth → ((values : Valuation) → satisfies values (cnf_of goal).clauses ≡ false)
    → (assignment : Assignment) → IsAssignment assignment → value assignment goal ≡ Truth true
true_by_unsatisfied goal e unsatisfied assignment h =
    at_truth (λ u. value assignment goal ≡ u → u ≡ Truth true) (value assignment goal) (value-sort assignment h goal sort.Truth e) by_truth refl
  where
    by_truth : (b : Bool) → value assignment goal ≡ Truth b → Truth b ≡ Truth true
    by_truth true is = refl
    by_truth false is =
        let model = model_of assignment goal h e is in
        let satisfied = model.1 in
        let no = unsatisfied model.0 in
        absurd (cc (satisfied, no))
