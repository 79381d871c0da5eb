use Rattle.std.proofs.Common.{refl}
use Rattle.word_steps_spec.proofs.Computes.{blocks_compute}
use Rattle.word_steps_spec.proofs.examples.a_block_takes_a_goal_apart.Goals as goal

pub returns-clause-cases : goal.returns-clause-cases
unfolding blocks_compute
returns-clause-cases c = refl

pub returns-clause-first : goal.returns-clause-first
unfolding blocks_compute
returns-clause-first c = refl

pub returns-clause-second : goal.returns-clause-second
unfolding blocks_compute
returns-clause-second c = refl
