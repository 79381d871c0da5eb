use Rattle.std.proofs.Common.{refl}
use Rattle.word_steps_spec.proofs.Computes.{blocks_compute}
use Rattle.word_steps_spec.proofs.examples.orders_have_spellings.Goals as goal

pub returns-clause-accepted : goal.returns-clause-accepted
unfolding blocks_compute
returns-clause-accepted c = (refl, (refl, (refl, (refl, (refl, (refl, tt))))))

pub returns-clause-refused : goal.returns-clause-refused
unfolding blocks_compute
returns-clause-refused c = (refl, (refl, (refl, (refl, (refl, (refl, tt))))))
