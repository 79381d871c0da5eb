use Rattle.sim_inline_laws.proofs.Chained.{callees_run_on}
use Rattle.sim_inline_laws.proofs.laws.callees_run_on.Goals as goal

pub returns : goal.returns
returns c = callees_run_on
