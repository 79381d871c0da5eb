use Rattle.std.proofs.Common.{ℕ, ◌<◌, List, get_or}
use Rattle.term_core_spec.specs.Term.{Term}
use Rattle.graph_core.specs.declared.shared.SharedNode.{SharedNode}
use Rattle.graph_core.specs.Shared.{shared_node_of}
use Rattle.path_cond.specs.Bound.{IsListedNode}
use Rattle.path_cond.proofs.bound.add_nodes.Given as goal

abbrev pub invariant-loop-node : goal.invariant-loop-node
invariant-loop-node l = (trees : List Term) (k : ℕ) (d : SharedNode) → k < l.node-index → IsListedNode l.variables.keys (shared_node_of trees (get_or l.nodes k d))
