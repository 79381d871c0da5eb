use Rattle.c_parse_laws.proofs.Declarators.{declares_other}
use Rattle.c_parse_laws.proofs.Declarators.{roled-declarator}
use Rattle.c_parse_laws.proofs.types.declarators_report.Goals as goal

pub returns : goal.returns
returns c = λ names inner depth counting whole. roled-declarator (declares_other names) inner depth counting whole
