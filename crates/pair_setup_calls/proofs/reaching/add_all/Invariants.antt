use Rattle.pair_setup_calls.specs.Graph.{Grows}
use Rattle.pair_setup_calls.proofs.Growing.{IsAmong}
use Rattle.pair_setup_calls.proofs.reaching.add_all.Given as goal

abbrev pub invariant-loop-node : goal.invariant-loop-node
invariant-loop-node l = Grows (IsAmong l.added l.node-index) l.initial.nodes.keys l.nodes.keys
