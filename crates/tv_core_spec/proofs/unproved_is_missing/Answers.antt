use Rattle.tv_core_spec.proofs.Written.{unproved_is_missing}
use Rattle.tv_core_spec.proofs.unproved_is_missing.Goals as goal

pub returns : goal.returns
returns c = unproved_is_missing
