use Rattle.c_parse_laws.proofs.InitialUnits.{finds_first}
use Rattle.c_parse_laws.proofs.initial_scan.scan_stops_at_first_definition.Goals as goal

pub returns : goal.returns
returns c = finds_first
