use Rattle.c_parse_laws.proofs.GlobalAll.{globals-roled}
use Rattle.c_parse_laws.proofs.globals.globals_report.Goals as goal

pub returns : goal.returns
returns c = globals-roled
