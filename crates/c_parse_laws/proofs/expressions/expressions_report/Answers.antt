use Rattle.c_parse_laws.proofs.ExpressionRoles.{around-roled}
use Rattle.c_parse_laws.proofs.expressions.expressions_report.Goals as goal

pub returns : goal.returns
returns c = around-roled
