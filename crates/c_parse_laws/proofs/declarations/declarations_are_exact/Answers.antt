use Rattle.c_parse_laws.proofs.All.{declarations-exact}
use Rattle.c_parse_laws.proofs.declarations.declarations_are_exact.Goals as goal

pub returns : goal.returns
returns c = declarations-exact
