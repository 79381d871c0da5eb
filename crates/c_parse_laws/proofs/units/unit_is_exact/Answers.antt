use Rattle.c_parse_laws.proofs.UnitAll.{unit-is_exact}
use Rattle.c_parse_laws.proofs.units.unit_is_exact.Goals as goal

pub returns : goal.returns
returns c = unit-is_exact
