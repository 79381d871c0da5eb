use Rattle.example_laws.proofs.FaultsWorked as worked
use Rattle.example_laws.proofs.faults.operator_after_returned_call_is_reported.Goals as goal

pub returns : goal.returns
returns c = worked.operator_after_returned_call
