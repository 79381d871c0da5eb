use Rattle.pair_setup_calls.specs.Graph.{graph_of, AreDepths}
use Rattle.pair_setup_calls.proofs.settling.settle_all.Given as goal

abbrev pub invariant-loop-node : goal.invariant-loop-node
invariant-loop-node l = AreDepths (graph_of l.graph) l.own l.depths
