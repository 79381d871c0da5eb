use Rattle.sim_rules_spec.proofs.Wait.{waits}
use Rattle.sim_rules_spec.proofs.laws.wait_law.Goals as goal

pub returns : goal.returns
returns c = λ convention f o hold terms proper opens inside same are valid. waits convention f o hold terms proper opens inside same are valid
