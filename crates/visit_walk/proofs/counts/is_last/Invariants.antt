use Rattle.std.proofs.Common.{◌≡◌, drop}
use Rattle.graph_core_spec.specs.declared.Next.TheVariants as next
use Rattle.visit_walk_spec.specs.Visits as spec
use Rattle.visit_walk.proofs.counts.is_last.Given as goal

abbrev pub invariant-loop-i : goal.invariant-loop-i
invariant-loop-i l = spec.is_last (next.At l.node) (drop l.i l.marks) (drop l.i l.counts) ≡ spec.is_last (next.At l.node) l.marks l.counts
