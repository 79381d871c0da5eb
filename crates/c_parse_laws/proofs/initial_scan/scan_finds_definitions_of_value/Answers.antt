use Rattle.c_parse_laws.proofs.InitialUnits.{finds_definitions}
use Rattle.c_parse_laws.proofs.initial_scan.scan_finds_definitions_of_value.Goals as goal

pub returns : goal.returns
returns c = finds_definitions
