use Rattle.c_parse_laws.proofs.InitialUnits.{finds_values}
use Rattle.c_parse_laws.proofs.initial_scan.scan_finds_initial_values.Goals as goal

pub returns : goal.returns
returns c = finds_values
