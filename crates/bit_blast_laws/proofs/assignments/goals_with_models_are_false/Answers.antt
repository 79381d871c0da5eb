use Rattle.bit_blast_laws.proofs.AssignmentsWhole.{false_by_satisfied}
use Rattle.bit_blast_laws.proofs.assignments.goals_with_models_are_false.Goals as goal

pub returns : goal.returns
returns c = false_by_satisfied
