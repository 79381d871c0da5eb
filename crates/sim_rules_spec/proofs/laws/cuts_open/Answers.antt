use Rattle.sim_rules_spec.proofs.AtCut.{cuts_open}
use Rattle.sim_rules_spec.proofs.laws.cuts_open.Goals as goal

pub returns : goal.returns
returns c = λ convention f is. cuts_open convention f is
