use Rattle.c_parse_laws.proofs.DeclarationWorked as worked
use Rattle.c_parse_laws.proofs.declarations.refuses_static.Goals as goal

pub returns : goal.returns
returns c = worked.refuses_static
