use Rattle.std.proofs.Common.{◌≡◌, take, length}
use Rattle.graph_inline.specs.Marks.{MoreMarked, BindingsMarked}
use Rattle.graph_inline.proofs.marking.mark_bindings.Given as goal

abbrev pub invariant-loop-binding : goal.invariant-loop-binding
invariant-loop-binding l = record {
  count : length l.marks ≡ length l.fn.marks;
  marked : BindingsMarked l.marks (take l.binding-index l.bindings);
  more : MoreMarked l.fn.marks l.marks;
}
