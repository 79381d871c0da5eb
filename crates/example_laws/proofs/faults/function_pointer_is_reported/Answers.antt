use Rattle.example_laws.proofs.FaultsWorked as worked
use Rattle.example_laws.proofs.faults.function_pointer_is_reported.Goals as goal

pub returns : goal.returns
returns c = worked.function_pointer
