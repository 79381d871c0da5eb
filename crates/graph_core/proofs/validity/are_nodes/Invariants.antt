use Rattle.std.proofs.Common.{ℕ, ◌<◌, get_or}
use Rattle.graph_core.specs.declared.shared.SharedNode.{SharedNode}
use Rattle.graph_core.specs.Sorts.{IsSortedNode}
use Rattle.graph_core.proofs.validity.are_nodes.Given as goal

-- those so far are nodes
abbrev pub invariant-loop-node : goal.invariant-loop-node
invariant-loop-node l = (k : ℕ) (d : SharedNode) → k < l.node-index → IsSortedNode l.sorts l.count (get_or l.nodes k d)
