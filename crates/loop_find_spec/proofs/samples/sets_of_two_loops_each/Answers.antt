use Rattle.std.proofs.Common.{refl}
use Rattle.loop_find_spec.specs.Choices.{of_code, of_source, divisions}
use Rattle.loop_find_spec.proofs.samples.sets_of_two_loops_each.Goals as goal

pub returns-clause-none : goal.returns-clause-none
unfolding of_code of_source divisions
returns-clause-none c = refl

pub returns-clause-odd : goal.returns-clause-odd
unfolding of_code of_source divisions
returns-clause-odd c = refl

pub returns-clause-two : goal.returns-clause-two
unfolding of_code of_source divisions
returns-clause-two c = refl

pub returns-clause-all : goal.returns-clause-all
unfolding of_code of_source divisions
returns-clause-all c = refl
