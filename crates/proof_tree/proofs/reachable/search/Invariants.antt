use Rattle.std.proofs.Common.{◌-◌, ◌^◌, [], ◌∷◌}
use Rattle.graph_core.specs.Graphs.{graph_of}
use Rattle.proof_tree.proofs.Ahead.{IsWalked}
use Rattle.proof_tree.proofs.reachable.search.Given as goal

-- the edges from the nodes before the next one are followed
abbrev pub invariant-loop-next : goal.invariant-loop-next
invariant-loop-next l = IsWalked (graph_of l.graph ∷ []) 0 l.from l.next l.found.keys

abbrev pub decreases-loop-next : goal.decreases-loop-next
decreases-loop-next l = 2 ^ 64 - l.next
