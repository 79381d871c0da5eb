use Rattle.sim_inline_laws.proofs.Chained.{runs_kept}
use Rattle.sim_inline_laws.proofs.laws.runs_are_kept.Goals as goal

pub returns : goal.returns
returns c = runs_kept
