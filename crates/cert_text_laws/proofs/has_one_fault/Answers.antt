use Rattle.cert_text_laws.proofs.Certificates.{one_fault}
use Rattle.cert_text_laws.proofs.has_one_fault.Goals as goal

pub returns : goal.returns
returns c = one_fault
