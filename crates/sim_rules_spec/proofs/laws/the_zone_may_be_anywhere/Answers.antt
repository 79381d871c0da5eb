use Rattle.sim_rules_spec.proofs.AnyZone.{leaf_elsewhere, wait_elsewhere, true_elsewhere}
use Rattle.sim_rules_spec.proofs.laws.the_zone_may_be_anywhere.Goals as goal

pub returns-clause-leaf : goal.returns-clause-leaf
returns-clause-leaf c = λ convention bottom top o f terms are. leaf_elsewhere convention bottom top o f terms are

pub returns-clause-wait : goal.returns-clause-wait
returns-clause-wait c = λ convention bottom top o f hold terms are. wait_elsewhere convention bottom top o f hold terms are

pub returns-clause-truth : goal.returns-clause-truth
returns-clause-truth c = λ convention bottom top terms valid. true_elsewhere convention bottom top terms valid
