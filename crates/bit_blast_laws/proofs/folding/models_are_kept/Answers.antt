use Rattle.bit_blast_laws.proofs.FoldedModels.{models_fold}
use Rattle.bit_blast_laws.proofs.folding.models_are_kept.Goals as goal

pub returns : goal.returns
returns c = models_fold
