use Rattle.std.proofs.Common.{◌≡◌, length}
use Rattle.graph_inline.specs.Marks.{MoreMarked, AreClosed}
use Rattle.graph_inline.proofs.marking.mark_subterms.Given as goal

-- from this id on, the arguments of what is marked are marked
abbrev pub invariant-loop-id : goal.invariant-loop-id
invariant-loop-id l = record {
  count : length l.marks ≡ length l.bank;
  closed : AreClosed l.id l.bank l.marks;
  more : MoreMarked l.fn.marks l.marks;
}
