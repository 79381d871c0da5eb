use Rattle.std.proofs.Common.{refl}
use Rattle.sim_rules_spec.proofs.laws.failed_states_are_spoken_of.Goals as goal

pub returns-clause-binary : goal.returns-clause-binary
returns-clause-binary c = λ convention f at. refl

pub returns-clause-source : goal.returns-clause-source
returns-clause-source c = λ convention at. refl
