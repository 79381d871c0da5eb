-- The assignment that is reconstructed makes the goal before normal form false.
use Rattle.std.proofs.Common.{◌≡◌, true, false, List, [], Some, sym, ◌∙◌}
use Rattle.clause_check_spec.specs.Clause.{Valuation, satisfies}
use Rattle.term_core_spec.specs.declared.Sort.TheVariants as sort
use Rattle.term_core_spec.specs.Term.{Term}
use Rattle.term_core_spec.specs.Sort.{sort_of}
use Rattle.term_core_spec.specs.Value.{Truth, Assignment, IsAssignment, value, binary_value}
use Rattle.memory_spec.specs.Runs.{Run, AreBytes}
use Rattle.term_norm_spec.specs.Fixed.{HoldsFixed}
use Rattle.term_norm_spec.specs.Normal.{normal}
use Rattle.term_norm_spec.proofs.Soundness.{keeps_normal}
use Rattle.bit_blast_spec.specs.Goal.{visit, cnf_of}
use Rattle.bit_blast_laws.proofs.TermsWhole.{goal_is_false}
use Rattle.bit_blast_laws.specs.Back.{read_back}
use Rattle.bit_blast_laws.proofs.Reading.{is_assignment}
use Rattle.bit_blast_laws.proofs.AssignmentsWhole.{goal_reads}
use Rattle.bit_blast_laws.proofs.NormalWhole.{normal_from, goal_from}
use Rattle.mem_terms_spec.specs.Flat.{loads_of}
use Rattle.mem_terms_spec.proofs.Loads.{are_in-with_loads}
use Rattle.mem_terms_spec.proofs.Forms.{truth_readable}
use Rattle.bit_blast_laws.specs.Held.{held, ReadsFixed}
use Rattle.bit_blast_laws.proofs.Held.{held_assigns, held_holds, same}

pub laid_over : (runs : List Run) → AreBytes runs → (assignment : Assignment) → IsAssignment assignment
    → IsAssignment (held runs assignment) × HoldsFixed runs (held runs assignment)
laid_over runs small assignment assigns = (held_assigns runs small assignment assigns, held_holds runs assignment)

pub falsified : (runs : List Run) → AreBytes runs → (values : Valuation) (goal : Term) → sort_of goal ≡ Some sort.Truth
    → satisfies values (cnf_of (normal runs goal)).clauses ≡ true
    → ReadsFixed runs (read_back values (visit (normal runs goal) [] 1).out) (normal runs goal)
    → value (held runs (read_back values (visit (normal runs goal) [] 1).out)) goal ≡ Truth false
unfolding value binary_value
falsified runs small values goal h satisfied fixed =
    let form : Term = normal runs goal in
    let back : Assignment = read_back values (visit form [] 1).out in
    let assigns = is_assignment values (visit form [] 1).out in
    let own = keeps_normal runs small goal sort.Truth h in
    let is_false = goal_is_false values back form assigns own.sorted satisfied (goal_reads values form own.sorted (goal_from runs small goal h) satisfied) in
    let readable = truth_readable form own.sorted (normal_from runs small goal sort.Truth h) in
    let kept = same runs back assigns (loads_of form) fixed form readable (are_in-with_loads form []) in
    sym (own.value_is (held runs back) (held_assigns runs small back assigns) (held_holds runs back)) ∙ kept ∙ is_false
