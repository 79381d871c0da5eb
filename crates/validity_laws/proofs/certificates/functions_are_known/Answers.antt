use Rattle.validity_laws.proofs.KnownFunctions.{functions_known}
use Rattle.validity_laws.proofs.certificates.functions_are_known.Goals as goal

pub returns : goal.returns
returns c = functions_known
