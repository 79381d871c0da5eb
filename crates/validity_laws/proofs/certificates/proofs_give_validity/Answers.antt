use Rattle.validity_laws.proofs.Proved.{proofs_give_validity}
use Rattle.validity_laws.proofs.certificates.proofs_give_validity.Goals as goal

pub returns : goal.returns
returns c = proofs_give_validity
