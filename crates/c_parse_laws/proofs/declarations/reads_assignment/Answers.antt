use Rattle.c_parse_laws.proofs.DeclarationWorked as worked
use Rattle.c_parse_laws.proofs.declarations.reads_assignment.Goals as goal

pub returns : goal.returns
returns c = worked.reads_assignment
