use Rattle.c_parse_laws.proofs.StatementAll.{statements-roled}
use Rattle.c_parse_laws.proofs.statements.statements_report.Goals as goal

pub returns : goal.returns
returns c = statements-roled
