use Rattle.pair_setup_calls.specs.Graph.{graph_of, IsOnCycle}
use Rattle.pair_setup_calls.proofs.Cycles.{NoneBelow}
use Rattle.pair_setup_calls.proofs.cycle.is_cyclic.Given as goal

abbrev pub invariant-loop-node : goal.invariant-loop-node
invariant-loop-node l = NoneBelow (IsOnCycle (graph_of l.graph)) l.others l.node-index
