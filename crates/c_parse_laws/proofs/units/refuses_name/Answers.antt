use Rattle.c_parse_laws.proofs.UnitWorked as worked
use Rattle.c_parse_laws.proofs.units.refuses_name.Goals as goal

pub returns : goal.returns
returns c = worked.refuses_name
