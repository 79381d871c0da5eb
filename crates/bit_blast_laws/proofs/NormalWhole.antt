-- Normal forms load from variables alone.
use Rattle.std.proofs.Common.{◌≡◌, true, false, List, [], Some}
use Rattle.clause_check_spec.specs.Clause.{Valuation, satisfies}
use Rattle.term_core_spec.specs.declared.Sort.{Sort}
use Rattle.term_core_spec.specs.declared.Sort.TheVariants as sort
use Rattle.term_core_spec.specs.Term.{Term}
use Rattle.term_core_spec.specs.Sort.{sort_of}
use Rattle.term_core_spec.specs.Value.{Truth, Assignment, IsAssignment, value}
use Rattle.memory_spec.specs.Runs.{Run, AreBytes}
use Rattle.term_norm_spec.specs.Normal.{normal}
use Rattle.term_norm_spec.proofs.Soundness.{keeps_normal}
use Rattle.term_norm_spec.proofs.Settled.{is_normal}
use Rattle.bit_blast_spec.specs.Goal.{visit, cnf_of}
use Rattle.bit_blast_laws.specs.Back.{TableLoadsFromVariables}
use Rattle.bit_blast_laws.proofs.AssignmentsWhole.{false_by_satisfied}
use Rattle.mem_terms_spec.specs.Assignments.{LoadsFromVariables}
use Rattle.bit_blast_laws.proofs.Rule.{from_variables}
use Rattle.bit_blast_laws.proofs.NormalVisits.{visit_from}

pub normal_from : (runs : List Run) → AreBytes runs → (t : Term) (s : Sort) → sort_of t ≡ Some s → LoadsFromVariables (normal runs t)
normal_from runs small t s h = from_variables runs (normal runs t) s (keeps_normal runs small t s h).sorted (is_normal runs t)

pub goal_from : (runs : List Run) → AreBytes runs → (goal : Term) → sort_of goal ≡ Some sort.Truth → TableLoadsFromVariables (visit (normal runs goal) [] 1).out
goal_from runs small goal h = visit_from (normal runs goal) (normal_from runs small goal sort.Truth h) [] 1 tt

pub false_by_satisfied_normal : (runs : List Run) → AreBytes runs → (values : Valuation) (goal : Term) → sort_of goal ≡ Some sort.Truth
    → satisfies values (cnf_of (normal runs goal)).clauses ≡ true
    → (assignment : Assignment) × IsAssignment assignment × (value assignment (normal runs goal) ≡ Truth false)
false_by_satisfied_normal runs small values goal h satisfied =
    false_by_satisfied values (normal runs goal) (keeps_normal runs small goal sort.Truth h).sorted (goal_from runs small goal h) satisfied
