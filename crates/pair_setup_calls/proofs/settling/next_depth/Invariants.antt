use Rattle.std.proofs.Common.{◌≡◌, ◌<◌, ℕ, get_or, None}
use Rattle.pair_setup_calls.specs.Graph.{graph_of, IsUnbounded}
use Rattle.pair_setup_calls.proofs.settling.next_depth.Given as goal

abbrev pub invariant-loop-node : goal.invariant-loop-node
invariant-loop-node l = (k : ℕ) → k < l.node → get_or l.depths k None ≡ None → IsUnbounded (graph_of l.graph) l.own l.depths k
