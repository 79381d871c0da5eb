use Rattle.cert_run.proofs.Valid.{pairs_valid}
use Rattle.cert_run.proofs.laws.checked_pairs_are_valid.Goals as goal

pub returns : goal.returns
returns c = pairs_valid c.proofs_give_validity.ensures
