use Rattle.std.proofs.Common.{◌+◌, ◌*◌, max}
use Rattle.c_types_core.specs.declared.expression.Core.{size-Core}
use Rattle.c_graph_terms.proofs.expression.+expressions.Given as goal

abbrev pub decreases-evaluate : goal.decreases-evaluate
decreases-evaluate l = 4 * size-Core l.x.now

abbrev pub decreases-load : goal.decreases-load
decreases-load l = 4 * size-Core l.address.now + 1

abbrev pub decreases-convert : goal.decreases-convert
decreases-convert l = 4 * size-Core l.operand.now + 1

abbrev pub decreases-within : goal.decreases-within
decreases-within l = 4 * size-Core l.index.now + 1

abbrev pub decreases-aligned : goal.decreases-aligned
decreases-aligned l = 4 * size-Core l.pointer.now + 1

abbrev pub decreases-arm : goal.decreases-arm
decreases-arm l = 4 * size-Core l.x.now + 1

abbrev pub decreases-both : goal.decreases-both
decreases-both l = 4 * max (size-Core l.first.now) (size-Core l.second.now) + 1

abbrev pub decreases-operate : goal.decreases-operate
decreases-operate l = 4 * max (size-Core l.left.now) (size-Core l.right.now) + 2

abbrev pub decreases-compare : goal.decreases-compare
decreases-compare l = 4 * max (size-Core l.left.now) (size-Core l.right.now) + 2

abbrev pub decreases-move_pointer : goal.decreases-move_pointer
decreases-move_pointer l = 4 * max (size-Core l.pointer.now) (size-Core l.index.now) + 2

abbrev pub decreases-choose : goal.decreases-choose
decreases-choose l = 4 * max (size-Core l.test.now) (max (size-Core l.first.now) (size-Core l.second.now)) + 2
