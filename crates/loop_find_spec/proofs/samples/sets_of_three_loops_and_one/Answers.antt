use Rattle.std.proofs.Common.{refl}
use Rattle.loop_find_spec.specs.Choices.{of_code, of_source, divisions}
use Rattle.loop_find_spec.proofs.samples.sets_of_three_loops_and_one.Goals as goal

pub returns-clause-two : goal.returns-clause-two
unfolding of_code of_source divisions
returns-clause-two c = refl

pub returns-clause-four : goal.returns-clause-four
unfolding of_code of_source divisions
returns-clause-four c = refl
