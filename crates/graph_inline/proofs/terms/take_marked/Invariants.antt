use Rattle.std.proofs.Common.{◌≡◌, length}
use Rattle.graph_core.specs.Graphs.{Grows}
use Rattle.graph_inline.specs.Taken.{AreTaken}
use Rattle.graph_inline.proofs.terms.take_marked.Given as goal

-- those before this one were taken
abbrev pub invariant-loop-id : goal.invariant-loop-id
invariant-loop-id l = record {
  taken : AreTaken l.instance l.from l.graph.trees l.marks l.table.items;
  count : length l.table.items ≡ l.id;
  grows : Grows l.fn.graph l.graph;
}
