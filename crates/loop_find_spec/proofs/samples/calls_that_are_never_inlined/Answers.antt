use Rattle.std.proofs.Common.{refl}
use Rattle.loop_find_spec.specs.Inlining.{settled, inlined_once, calls_of}
use Rattle.loop_find_spec.specs.Samples.{sides_of_f}
use Rattle.loop_find_spec.proofs.samples.calls_that_are_never_inlined.Goals as goal

pub returns : goal.returns
unfolding inlined_once calls_of
returns c = settled sides_of_f refl
