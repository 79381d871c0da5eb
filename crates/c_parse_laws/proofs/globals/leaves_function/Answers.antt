use Rattle.c_parse_laws.proofs.GlobalWorked as worked
use Rattle.c_parse_laws.proofs.globals.leaves_function.Goals as goal

pub returns : goal.returns
returns c = worked.leaves_function
