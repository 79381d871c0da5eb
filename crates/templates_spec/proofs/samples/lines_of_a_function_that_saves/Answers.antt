use Rattle.std.proofs.Common.{refl}
use Rattle.templates_spec.specs.Templates.{each_once}
use Rattle.templates_spec.proofs.samples.lines_of_a_function_that_saves.Goals as goal

pub returns-clause-words : goal.returns-clause-words
unfolding each_once
returns-clause-words c = refl

pub returns-clause-lines : goal.returns-clause-lines
unfolding each_once
returns-clause-lines c = refl
