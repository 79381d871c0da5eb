use Rattle.bit_blast_laws.proofs.NormalWhole.{false_by_satisfied_normal}
use Rattle.bit_blast_laws.proofs.normal_forms.normal_goals_with_models_are_false.Goals as goal

pub returns : goal.returns
returns c = false_by_satisfied_normal
