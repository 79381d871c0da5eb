use Rattle.c_parse_laws.proofs.DeclarationWorked as worked
use Rattle.c_parse_laws.proofs.declarations.leaves_sum.Goals as goal

pub returns : goal.returns
returns c = worked.leaves_sum
