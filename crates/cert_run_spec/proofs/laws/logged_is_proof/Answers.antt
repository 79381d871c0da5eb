use Rattle.cert_run_spec.proofs.Logged.{logged_is_proof}
use Rattle.cert_run_spec.proofs.laws.logged_is_proof.Goals as goal

pub returns : goal.returns
returns c = logged_is_proof
