use Rattle.std.proofs.Common.{refl}
use Rattle.templates_spec.proofs.samples.lines_of_a_function_with_a_wide_local.Goals as goal

pub returns-clause-values : goal.returns-clause-values
returns-clause-values c = refl

pub returns-clause-order : goal.returns-clause-order
returns-clause-order c = refl
