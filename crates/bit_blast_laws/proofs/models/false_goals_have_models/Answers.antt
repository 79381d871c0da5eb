use Rattle.bit_blast_laws.proofs.ModelsWhole.{model_of}
use Rattle.bit_blast_laws.proofs.models.false_goals_have_models.Goals as goal

pub returns : goal.returns
returns c = model_of
