use Rattle.cert_run_spec.proofs.Once.{one_verdict}
use Rattle.cert_run_spec.proofs.laws.has_one_verdict.Goals as goal

pub returns : goal.returns
returns c = one_verdict
