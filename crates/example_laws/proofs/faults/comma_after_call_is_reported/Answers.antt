use Rattle.example_laws.proofs.FaultsWorked as worked
use Rattle.example_laws.proofs.faults.comma_after_call_is_reported.Goals as goal

pub returns : goal.returns
returns c = worked.comma_after_call
