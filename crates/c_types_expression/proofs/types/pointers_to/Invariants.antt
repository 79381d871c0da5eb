use Rattle.std.proofs.Common.{◌≡◌}
use Rattle.c_types_spec.specs.Expressions as rule
use Rattle.c_types_layout.specs.Types.{type_of}
use Rattle.c_types_expression.proofs.types.pointers_to.Given as goal

abbrev pub invariant-loop-left : goal.invariant-loop-left
invariant-loop-left l = rule.pointers_to l.left (type_of l.made) ≡ rule.pointers_to l.count (type_of l.fn.of)

abbrev pub decreases-loop-left : goal.decreases-loop-left
decreases-loop-left l = l.left
