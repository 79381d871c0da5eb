use Rattle.visit_walk_spec.proofs.Order.{ordered}
use Rattle.visit_walk_spec.proofs.visits_are_ordered.Goals as goal

pub returns : goal.returns
returns c = ordered
