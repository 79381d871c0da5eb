use Rattle.std.proofs.Common.{List, map, subst}
use Rattle.graph_core.specs.declared.shared.SharedNode.{SharedNode}
use Rattle.graph_core.specs.Shared.{shared_node_of}
use Rattle.path_cond.specs.Bound.{ListsAll}
use Rattle.path_cond.proofs.bound.bound_variables.Goals as goal

pub returns : goal.returns
returns c =
    subst (λ (ns : List SharedNode). ListsAll c.add_nodes.new.variables.keys (map (shared_node_of c.args.graph.now.trees) ns)) c.nodes.ensures.nodes (c.in_ok-add_nodes.ensures c.args.graph.now.trees)
