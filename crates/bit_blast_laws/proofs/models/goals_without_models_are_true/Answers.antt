use Rattle.bit_blast_laws.proofs.ModelsWhole.{true_by_unsatisfied}
use Rattle.bit_blast_laws.proofs.models.goals_without_models_are_true.Goals as goal

pub returns : goal.returns
returns c = true_by_unsatisfied
