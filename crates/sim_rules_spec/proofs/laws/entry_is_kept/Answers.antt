use Rattle.sim_rules_spec.proofs.Kept.{entry_is_kept}
use Rattle.sim_rules_spec.proofs.laws.entry_is_kept.Goals as goal

pub returns : goal.returns
returns c = λ convention f known more are is. entry_is_kept convention f known are more is
