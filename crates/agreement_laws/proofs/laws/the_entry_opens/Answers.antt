use Rattle.agreement_laws.proofs.EntryOpens.{entry_opens}
use Rattle.agreement_laws.proofs.laws.the_entry_opens.Goals as goal

pub returns : goal.returns
returns c = λ p zone f is small. entry_opens p zone f is small
