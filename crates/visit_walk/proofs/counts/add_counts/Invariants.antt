use Rattle.std.proofs.Common.{◌≡◌, ◌++◌, drop}
use Rattle.visit_walk_spec.specs.Visits as spec
use Rattle.visit_walk.proofs.counts.add_counts.Given as goal

abbrev pub invariant-loop-i : goal.invariant-loop-i
invariant-loop-i l = l.new.items ++ spec.counted l.node (drop l.i l.marks) (drop l.i l.counts) ≡ spec.counted l.node l.marks l.counts
