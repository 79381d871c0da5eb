use Rattle.std.proofs.Common.{refl}
use Rattle.loop_find_spec.specs.Inlining.{settled, inwards, inlined_once, calls_of}
use Rattle.loop_find_spec.specs.Samples.{sides_of_f, without_calls}
use Rattle.loop_find_spec.proofs.samples.calls_in_calls_are_inlined.Goals as goal

pub returns-clause-all : goal.returns-clause-all
unfolding inlined_once calls_of
returns-clause-all c = inwards sides_of_f without_calls refl (inwards _ without_calls refl (settled without_calls refl))

pub returns-clause-needed : goal.returns-clause-needed
unfolding inlined_once calls_of
returns-clause-needed c = inwards sides_of_f without_calls refl (inwards _ without_calls refl (settled without_calls refl))
