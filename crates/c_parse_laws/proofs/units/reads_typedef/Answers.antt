use Rattle.c_parse_laws.proofs.UnitWorked as worked
use Rattle.c_parse_laws.proofs.units.reads_typedef.Goals as goal

pub returns : goal.returns
returns c = worked.reads_typedef
