use Rattle.cert_run_spec.proofs.Valid.{logged_leaves_are_valid}
use Rattle.cert_run_spec.proofs.laws.logged_leaves_are_valid.Goals as goal

pub returns : goal.returns
returns c = logged_leaves_are_valid
