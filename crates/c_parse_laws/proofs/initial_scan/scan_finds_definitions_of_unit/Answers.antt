use Rattle.c_parse_laws.proofs.InitialUnits.{finds_all}
use Rattle.c_parse_laws.proofs.initial_scan.scan_finds_definitions_of_unit.Goals as goal

pub returns : goal.returns
returns c = finds_all
