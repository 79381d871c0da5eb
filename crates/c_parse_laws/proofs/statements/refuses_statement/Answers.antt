use Rattle.c_parse_laws.proofs.StatementWorked as worked
use Rattle.c_parse_laws.proofs.statements.refuses_statement.Goals as goal

pub returns : goal.returns
returns c = worked.refuses_statement
