use Rattle.sim_rules_spec.proofs.Called.{called}
use Rattle.sim_rules_spec.proofs.laws.call_law.Goals as goal

pub returns : goal.returns
returns g = called
