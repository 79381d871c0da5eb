use Rattle.tv_core_spec.proofs.Alike.{one-verdict}
use Rattle.tv_core_spec.proofs.one_verdict.Goals as goal

pub returns : goal.returns
returns c = one-verdict
