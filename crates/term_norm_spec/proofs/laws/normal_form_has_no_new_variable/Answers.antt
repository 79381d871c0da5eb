use Rattle.term_norm_spec.proofs.Variables.{occurs-normal}
use Rattle.term_norm_spec.proofs.laws.normal_form_has_no_new_variable.Goals as goal

pub returns : goal.returns
returns c = occurs-normal
