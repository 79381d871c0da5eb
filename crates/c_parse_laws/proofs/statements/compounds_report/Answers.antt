use Rattle.c_parse_spec.specs.Limits.{expression_fuel}
use Rattle.c_parse_laws.specs.Fuel.{parsers}
use Rattle.c_parse_laws.proofs.ExpressionFuel.{all-roled}
use Rattle.c_parse_laws.proofs.Parts.{roled-parts}
use Rattle.c_parse_laws.proofs.Switches.{roled-groups}
use Rattle.c_parse_laws.proofs.statements.compounds_report.Goals as goal

pub returns : goal.returns
returns c = λ names statements depth is. record { parts = roled-parts names (parsers names expression_fuel) (all-roled names) statements depth is; groups = roled-groups names (parsers names expression_fuel) (all-roled names) statements depth is }
