use Rattle.validity_laws.proofs.Truths.{have_truths}
use Rattle.validity_laws.proofs.trails.functions_have_truths.Goals as goal

pub returns : goal.returns
returns c = have_truths
