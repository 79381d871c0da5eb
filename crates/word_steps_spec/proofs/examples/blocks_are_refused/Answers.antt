use Rattle.std.proofs.Common.{refl}
use Rattle.word_steps_spec.proofs.Computes.{blocks_compute}
use Rattle.word_steps_spec.proofs.examples.blocks_are_refused.Goals as goal

pub returns-clause-lines : goal.returns-clause-lines
unfolding blocks_compute
returns-clause-lines c = (refl, (refl, (refl, (refl, (refl, (refl, (refl, (refl, tt))))))))

pub returns-clause-flag : goal.returns-clause-flag
unfolding blocks_compute
returns-clause-flag c = (refl, tt)

pub returns-clause-opposite : goal.returns-clause-opposite
unfolding blocks_compute
returns-clause-opposite c = (refl, tt)
