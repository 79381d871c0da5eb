use Rattle.std.proofs.Common.{refl}
use Rattle.templates_spec.specs.Templates.{each_once}
use Rattle.templates_spec.proofs.samples.lines_of_a_function_that_counts.Goals as goal

pub returns-clause-value : goal.returns-clause-value
unfolding each_once
returns-clause-value c = refl

pub returns-clause-sums : goal.returns-clause-sums
unfolding each_once
returns-clause-sums c = refl

pub returns-clause-order : goal.returns-clause-order
unfolding each_once
returns-clause-order c = refl

pub returns-clause-count : goal.returns-clause-count
unfolding each_once
returns-clause-count c = refl
