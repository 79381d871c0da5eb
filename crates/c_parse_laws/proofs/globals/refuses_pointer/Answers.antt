use Rattle.c_parse_laws.proofs.GlobalWorked as worked
use Rattle.c_parse_laws.proofs.globals.refuses_pointer.Goals as goal

pub returns : goal.returns
returns c = worked.refuses_pointer
