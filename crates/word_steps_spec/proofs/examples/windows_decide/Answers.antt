use Rattle.std.proofs.Common.{refl}
use Rattle.word_steps_spec.proofs.Computes.{blocks_compute}
use Rattle.word_steps_spec.proofs.examples.windows_decide.Goals as goal

pub returns-clause-true_ones : goal.returns-clause-true_ones
unfolding blocks_compute
returns-clause-true_ones c = (refl, (refl, (refl, tt)))

pub returns-clause-false_ones : goal.returns-clause-false_ones
unfolding blocks_compute
returns-clause-false_ones c = (refl, (refl, tt))

pub returns-clause-others : goal.returns-clause-others
unfolding blocks_compute
returns-clause-others c = (refl, (refl, (refl, (refl, (refl, tt)))))
