use Rattle.sim_rules_spec.proofs.Returned.{callees_return_well}
use Rattle.sim_rules_spec.proofs.laws.call_return_law.Goals as goal

pub returns : goal.returns
returns c = callees_return_well
