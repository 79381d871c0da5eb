use Rattle.term_norm_spec.proofs.Soundness.{keeps_normal}
use Rattle.term_norm_spec.proofs.laws.normal_form_has_the_value.Goals as goal

pub returns : goal.returns
returns c = λ runs small t s h. (keeps_normal runs small t s h).value_is
