use Rattle.visit_walk_spec.proofs.Order.{acyclic}
use Rattle.visit_walk_spec.proofs.listed_walks_are_acyclic.Goals as goal

pub returns : goal.returns
returns c = acyclic
