use Rattle.sim_rules_spec.proofs.Case.{case_is_sound}
use Rattle.sim_rules_spec.proofs.laws.case_law.Goals as goal

pub returns : goal.returns
returns c = λ convention f known test line holding failing. case_is_sound convention f known test line holding failing
