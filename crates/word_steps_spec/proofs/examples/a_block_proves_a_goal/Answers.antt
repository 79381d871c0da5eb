use Rattle.std.proofs.Common.{refl}
use Rattle.word_steps_spec.proofs.Computes.{blocks_compute}
use Rattle.word_steps_spec.proofs.examples.a_block_proves_a_goal.Goals as goal

pub returns : goal.returns
unfolding blocks_compute
returns c = refl
