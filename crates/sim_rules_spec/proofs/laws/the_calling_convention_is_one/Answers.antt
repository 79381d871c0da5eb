use Rattle.sim_rules_spec.proofs.Calling.{is_convention}
use Rattle.sim_rules_spec.proofs.laws.the_calling_convention_is_one.Goals as goal

pub returns : goal.returns
returns c = λ stack bottom top result fixed below none. is_convention stack bottom top result fixed below none
