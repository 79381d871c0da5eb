use Rattle.example_laws.proofs.FaultsWorked as worked
use Rattle.example_laws.proofs.faults.missing_parameter_is_reported.Goals as goal

pub returns : goal.returns
returns c = worked.missing_parameter
