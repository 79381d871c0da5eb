use Rattle.std.proofs.Common.{refl}
use Rattle.loop_find_spec.specs.Inlining.{settled, inwards, inlined_once, calls_of}
use Rattle.loop_find_spec.specs.Samples.{sides_of_f, without_g}
use Rattle.loop_find_spec.proofs.samples.calls_without_a_part_are_inlined.Goals as goal

pub returns : goal.returns
unfolding inlined_once calls_of
returns c = inwards sides_of_f without_g refl (settled without_g refl)
