use Rattle.cert_run_spec.proofs.Apart.{told_apart}
use Rattle.cert_run_spec.proofs.laws.functions_are_told_apart.Goals as goal

pub returns : goal.returns
returns c = told_apart
