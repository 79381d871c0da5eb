use Rattle.agreement_laws.proofs.Entries.{entries_agree}
use Rattle.agreement_laws.proofs.laws.entries_agree.Goals as goal

pub returns : goal.returns
returns c = λ p is simulated m arguments a b meets unbroken entry. entries_agree p is simulated m arguments a b meets unbroken entry
