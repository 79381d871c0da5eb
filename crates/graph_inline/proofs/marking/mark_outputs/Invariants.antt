use Rattle.std.proofs.Common.{◌≡◌, take, length, All}
use Rattle.graph_inline.specs.Marks.{MoreMarked, OutputsMarked}
use Rattle.graph_inline.proofs.marking.mark_outputs.Given as goal

abbrev pub invariant-loop-node : goal.invariant-loop-node
invariant-loop-node l = record {
  count : length l.marks ≡ length l.fn.marks;
  marked : All (OutputsMarked l.marks) (take l.node-index l.nodes);
  more : MoreMarked l.fn.marks l.marks;
}
