use Rattle.tv_core_spec.proofs.Written.{proved_is_checked}
use Rattle.tv_core_spec.proofs.proved_is_checked.Goals as goal

pub returns : goal.returns
returns c = proved_is_checked
