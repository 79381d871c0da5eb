use Rattle.example_laws.proofs.FaultsWorked as worked
use Rattle.example_laws.proofs.faults.call_in_operand_is_reported.Goals as goal

pub returns : goal.returns
returns c = worked.call_in_operand
