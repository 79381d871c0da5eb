use Rattle.std.proofs.Common.{◌-◌, ◌^◌}
use Rattle.visit_walk.proofs.Passing.{IsPassing}
use Rattle.visit_walk.proofs.cycle.add_all_passed.Given as goal

abbrev pub invariant-loop-next : goal.invariant-loop-next
invariant-loop-next l = IsPassing l.shape l.marks l.start l.next l.found.keys

abbrev pub decreases-loop-next : goal.decreases-loop-next
decreases-loop-next l = 2 ^ 64 - l.next
