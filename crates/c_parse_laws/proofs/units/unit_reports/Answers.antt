use Rattle.c_parse_laws.proofs.Faults.{unit-reports}
use Rattle.c_parse_laws.proofs.units.unit_reports.Goals as goal

pub returns : goal.returns
returns c = unit-reports
