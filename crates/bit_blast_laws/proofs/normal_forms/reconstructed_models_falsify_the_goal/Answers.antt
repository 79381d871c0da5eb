use Rattle.bit_blast_laws.proofs.Fixed.{falsified}
use Rattle.bit_blast_laws.proofs.normal_forms.reconstructed_models_falsify_the_goal.Goals as goal

pub returns : goal.returns
returns c = falsified
