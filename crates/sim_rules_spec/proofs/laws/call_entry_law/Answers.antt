use Rattle.sim_rules_spec.proofs.Calls.{callees_begin_well}
use Rattle.sim_rules_spec.proofs.laws.call_entry_law.Goals as goal

pub returns : goal.returns
returns g = callees_begin_well
