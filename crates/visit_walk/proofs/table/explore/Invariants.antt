use Rattle.visit_walk.proofs.Exploring.{IsExploring}
use Rattle.visit_walk.proofs.table.explore.Given as goal

abbrev pub invariant-loop-i : goal.invariant-loop-i
invariant-loop-i l = IsExploring l.shape l.marks l.start l.i l.table l.targets.items
