use Rattle.term_core_spec.proofs.Variables.{value-occurs}
use Rattle.term_core.proofs.laws.values_depend_on_the_variables_that_occur.Goals as goal

pub returns : goal.returns
returns c = value-occurs
