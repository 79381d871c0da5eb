use Rattle.cert_run_spec.proofs.Valid.{proofs_are_valid}
use Rattle.cert_run_spec.proofs.laws.proofs_are_valid.Goals as goal

pub returns : goal.returns
returns c = proofs_are_valid
