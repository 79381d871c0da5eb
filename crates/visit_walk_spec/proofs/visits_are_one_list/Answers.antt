use Rattle.visit_walk_spec.proofs.Order.{one_list}
use Rattle.visit_walk_spec.proofs.visits_are_one_list.Goals as goal

pub returns : goal.returns
returns c = one_list
