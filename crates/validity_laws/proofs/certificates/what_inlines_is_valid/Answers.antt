use Rattle.validity_laws.proofs.Accepted.{whole_is_valid}
use Rattle.validity_laws.proofs.certificates.what_inlines_is_valid.Goals as goal

pub returns : goal.returns
returns c = whole_is_valid
