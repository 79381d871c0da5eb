use Rattle.std.proofs.Common.{◌∙◌, ap}
use Rattle.clause_check_spec.specs.Clause.{negation as other}
use Rattle.cnf_core.proofs.Negated.{negated}
use Rattle.cnf_core.proofs.literals.negation.Goals as goal

pub returns : goal.returns
returns c = negated c.literal.inside.code ∙ ap other c.literal.view_is
