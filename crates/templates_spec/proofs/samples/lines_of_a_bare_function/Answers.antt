use Rattle.std.proofs.Common.{refl}
use Rattle.templates_spec.specs.Templates.{each_once}
use Rattle.templates_spec.proofs.samples.lines_of_a_bare_function.Goals as goal

pub returns : goal.returns
unfolding each_once
returns c = refl
