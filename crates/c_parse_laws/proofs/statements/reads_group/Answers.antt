use Rattle.c_parse_laws.proofs.StatementWorked as worked
use Rattle.c_parse_laws.proofs.statements.reads_group.Goals as goal

pub returns : goal.returns
returns c = worked.reads_group
