use Rattle.example_laws.proofs.FaultsWorked as worked
use Rattle.example_laws.proofs.faults.bit_field_is_reported.Goals as goal

pub returns : goal.returns
returns c = worked.bit_field
