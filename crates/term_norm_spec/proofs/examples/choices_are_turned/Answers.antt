use Rattle.std.proofs.Common.{refl}
use Rattle.term_norm_spec.proofs.Computes.{forms_compute}
use Rattle.term_norm_spec.proofs.examples.choices_are_turned.Goals as goal

pub returns : goal.returns
unfolding forms_compute
returns c = (refl, (refl, (refl, (refl, (refl, (refl, (refl, (refl, tt))))))))
