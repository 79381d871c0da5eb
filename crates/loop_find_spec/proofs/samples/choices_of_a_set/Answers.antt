use Rattle.std.proofs.Common.{refl}
use Rattle.loop_find_spec.specs.Choices.{of_code, of_source, divisions}
use Rattle.loop_find_spec.proofs.samples.choices_of_a_set.Goals as goal

pub returns-clause-none : goal.returns-clause-none
unfolding of_code of_source divisions
returns-clause-none c = refl

pub returns-clause-one_left_out : goal.returns-clause-one_left_out
unfolding of_code of_source divisions
returns-clause-one_left_out c = refl

pub returns-clause-one_each : goal.returns-clause-one_each
unfolding of_code of_source divisions
returns-clause-one_each c = refl

pub returns-clause-two_and_one : goal.returns-clause-two_and_one
unfolding of_code of_source divisions
returns-clause-two_and_one c = refl
