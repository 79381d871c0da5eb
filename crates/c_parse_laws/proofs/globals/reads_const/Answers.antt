use Rattle.c_parse_laws.proofs.GlobalWorked as worked
use Rattle.c_parse_laws.proofs.globals.reads_const.Goals as goal

pub returns : goal.returns
returns c = worked.reads_const
