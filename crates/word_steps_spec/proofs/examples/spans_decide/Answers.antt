use Rattle.std.proofs.Common.{refl}
use Rattle.word_steps_spec.proofs.Computes.{blocks_compute}
use Rattle.word_steps_spec.proofs.examples.spans_decide.Goals as goal

pub returns-clause-below : goal.returns-clause-below
unfolding blocks_compute
returns-clause-below c = (refl, (refl, tt))

pub returns-clause-apart : goal.returns-clause-apart
unfolding blocks_compute
returns-clause-apart c = (refl, (refl, tt))

pub returns-clause-zero : goal.returns-clause-zero
unfolding blocks_compute
returns-clause-zero c = (refl, tt)

pub returns-clause-unknown : goal.returns-clause-unknown
unfolding blocks_compute
returns-clause-unknown c = (refl, (refl, (refl, (refl, (refl, tt)))))
