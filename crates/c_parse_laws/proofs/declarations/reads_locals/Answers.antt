use Rattle.c_parse_laws.proofs.DeclarationWorked as worked
use Rattle.c_parse_laws.proofs.declarations.reads_locals.Goals as goal

pub returns : goal.returns
returns c = worked.reads_locals
