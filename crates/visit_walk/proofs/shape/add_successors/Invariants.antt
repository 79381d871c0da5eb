use Rattle.std.proofs.Common.{◌≡◌, List, map, take}
use Rattle.term_core_spec.specs.Term.{Term}
use Rattle.graph_core.specs.Shared.{shared_node_of}
use Rattle.visit_walk_spec.specs.Shape as spec
use Rattle.visit_walk.proofs.shape.add_successors.Given as goal

abbrev pub invariant-loop-node : goal.invariant-loop-node
invariant-loop-node l = (trees : List Term) → l.successors.items ≡ map spec.successors_of (map (shared_node_of trees) (take l.node-index l.nodes))
