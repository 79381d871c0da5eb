use Rattle.validity_laws.proofs.CheckFunctions.{closed_is_valid}
use Rattle.validity_laws.proofs.certificates.closed_is_valid.Goals as goal

pub returns : goal.returns
returns c = λ q g sides file function small closed named stack. closed_is_valid q g sides file function small closed named stack
