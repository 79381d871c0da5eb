use Rattle.pair_setup_calls.proofs.Deepest.{IsDeepestBelow}
use Rattle.pair_setup_calls.proofs.settling.deepest.Given as goal

abbrev pub invariant-loop-node : goal.invariant-loop-node
invariant-loop-node l = IsDeepestBelow l.depths l.nodes l.node-index l.deepest
