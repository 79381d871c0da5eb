use Rattle.std.proofs.Common.{◌+◌, ◌*◌, max}
use Rattle.c_types_core.specs.declared.expression.Core.{size-Core}
use Rattle.c_run_value.proofs.evaluation.+values.Given as goal

abbrev pub decreases-value : goal.decreases-value
decreases-value l = 2 * size-Core l.x.now

abbrev pub decreases-load : goal.decreases-load
decreases-load l = 2 * size-Core l.address.now + 1

abbrev pub decreases-convert_value : goal.decreases-convert_value
decreases-convert_value l = 2 * size-Core l.operand.now + 1

abbrev pub decreases-bounded : goal.decreases-bounded
decreases-bounded l = 2 * size-Core l.index.now + 1

abbrev pub decreases-at_alignment : goal.decreases-at_alignment
decreases-at_alignment l = 2 * size-Core l.pointer.now + 1

abbrev pub decreases-operate : goal.decreases-operate
decreases-operate l = 2 * max (size-Core l.left.now) (size-Core l.right.now) + 1

abbrev pub decreases-compare : goal.decreases-compare
decreases-compare l = 2 * max (size-Core l.left.now) (size-Core l.right.now) + 1

abbrev pub decreases-move_pointer : goal.decreases-move_pointer
decreases-move_pointer l = 2 * max (size-Core l.pointer.now) (size-Core l.index.now) + 1

abbrev pub decreases-choose : goal.decreases-choose
decreases-choose l = 2 * max (size-Core l.test.now) (max (size-Core l.first.now) (size-Core l.second.now)) + 1
