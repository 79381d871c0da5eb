use Rattle.sim_rules_spec.proofs.Leaf.{leaf_is_sound}
use Rattle.sim_rules_spec.proofs.laws.leaf_law.Goals as goal

pub returns : goal.returns
returns c = λ convention f o terms proper opens are valid. leaf_is_sound convention f o terms proper opens are valid
