use Rattle.c_parse_laws.proofs.ExpressionFuel.{all-roled}
use Rattle.c_parse_laws.proofs.types.expressions_and_types_report.Goals as goal

pub returns : goal.returns
returns c = all-roled
