use Rattle.visit_walk_spec.proofs.Order.{stop_or_bounded}
use Rattle.visit_walk_spec.proofs.marks_are_stops_or_bounds.Goals as goal

pub returns : goal.returns
returns c = stop_or_bounded
