use Rattle.std.specs.Prelude.{sum_by}
use Rattle.pair_setup_calls.specs.Graph.{graph_of, AreDepths}
use Rattle.pair_setup_calls.proofs.Complete.{missing}
use Rattle.pair_setup_calls.proofs.settling.settle_rest.Given as goal

abbrev pub invariant-nodes : goal.invariant-nodes
invariant-nodes l = AreDepths (graph_of l.graph) l.own l.depths

abbrev pub decreases-nodes : goal.decreases-nodes
decreases-nodes l = sum_by missing l.depths
