use Rattle.visit_walk.proofs.Rounds.{AreRoundsBelow}
use Rattle.visit_walk.proofs.cycle.add_rounds.Given as goal

abbrev pub invariant-loop-node : goal.invariant-loop-node
invariant-loop-node l = AreRoundsBelow l.shape l.marks l.node l.targets.items
