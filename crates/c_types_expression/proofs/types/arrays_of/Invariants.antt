use Rattle.std.proofs.Common.{◌≡◌, ◌≤◌, take, length}
use Rattle.c_types_spec.specs.Expressions as rule
use Rattle.c_types_layout.specs.Types.{type_of}
use Rattle.c_types_expression.proofs.types.arrays_of.Given as goal

abbrev pub invariant-loop-left : goal.invariant-loop-left
invariant-loop-left l = (l.left ≤ length l.lengths) × (rule.arrays_of (take l.left l.lengths) (type_of l.made) ≡ rule.arrays_of l.lengths (type_of l.fn.of))

abbrev pub decreases-loop-left : goal.decreases-loop-left
decreases-loop-left l = l.left
