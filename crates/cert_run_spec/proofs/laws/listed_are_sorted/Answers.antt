use Rattle.cert_run_spec.proofs.Valid.{listed_are_sorted}
use Rattle.cert_run_spec.proofs.laws.listed_are_sorted.Goals as goal

pub returns : goal.returns
returns c = listed_are_sorted
