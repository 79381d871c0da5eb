use Rattle.std.proofs.Common.{◌≡◌, List, map, subst}
use Rattle.graph_core.specs.declared.shared.SharedNode.{SharedNode}
use Rattle.graph_core.specs.Shared.{shared_node_of}
use Rattle.visit_walk_spec.specs.Shape as spec
use Rattle.visit_walk.proofs.shape.Shape.of.Goals as goal

pub returns : goal.returns
returns c =
    subst (λ (ns : List SharedNode). c.add_successors.new.successors.items ≡ map spec.successors_of (map (shared_node_of c.args.graph.now.trees) ns)) c.nodes.ensures.nodes
    (c.in_ok-add_successors.ensures c.args.graph.now.trees)
