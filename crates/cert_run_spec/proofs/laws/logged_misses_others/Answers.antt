use Rattle.cert_run_spec.proofs.Logged.{logged_misses_others}
use Rattle.cert_run_spec.proofs.laws.logged_misses_others.Goals as goal

pub returns : goal.returns
returns c = logged_misses_others
