use Rattle.validity_laws.proofs.Accepted.{accepted_is_valid}
use Rattle.validity_laws.proofs.certificates.what_is_accepted_is_valid.Goals as goal

pub returns : goal.returns
returns c = accepted_is_valid
