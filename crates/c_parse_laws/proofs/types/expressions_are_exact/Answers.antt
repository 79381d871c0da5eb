use Rattle.c_parse_laws.proofs.ExpressionFuel.{all-exact}
use Rattle.c_parse_laws.proofs.types.expressions_are_exact.Goals as goal

pub returns : goal.returns
returns c = all-exact
