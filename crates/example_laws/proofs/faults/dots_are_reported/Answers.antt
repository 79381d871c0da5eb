use Rattle.example_laws.proofs.FaultsWorked as worked
use Rattle.example_laws.proofs.faults.dots_are_reported.Goals as goal

pub returns : goal.returns
returns c = worked.dots
