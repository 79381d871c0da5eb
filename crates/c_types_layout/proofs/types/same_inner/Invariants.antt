use Rattle.std.proofs.Common.{◌≡◌}
use Rattle.c_types_spec.specs.Types as tree
use Rattle.c_types_layout.specs.Comparison.{inside}
use Rattle.c_types_layout.proofs.Pointed.{depth}
use Rattle.c_types_layout.proofs.types.same_inner.Given as goal

abbrev pub invariant-loop-s : goal.invariant-loop-s
invariant-loop-s l = tree.same_type (inside l.left) (inside l.right) ≡ tree.same_type (inside l.a) (inside l.b)

abbrev pub decreases-loop-s : goal.decreases-loop-s
decreases-loop-s l = depth (inside l.left)
