use Rattle.c_parse_laws.proofs.Worked as worked
use Rattle.c_parse_laws.proofs.types.reads_cast.Goals as goal

pub returns : goal.returns
returns c = worked.reads_cast
