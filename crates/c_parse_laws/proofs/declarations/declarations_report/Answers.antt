use Rattle.c_parse_laws.proofs.All.{declarations-roled}
use Rattle.c_parse_laws.proofs.declarations.declarations_report.Goals as goal

pub returns : goal.returns
returns c = declarations-roled
