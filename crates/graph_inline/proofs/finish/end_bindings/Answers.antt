use Rattle.std.proofs.Common.{◌≡◌, ◌∙◌, Bool, List, None, Some, length, map, sym, ap, subst}
use Rattle.graph_inline.specs.Marks.{AreClosed}
use Rattle.graph_inline.specs.Taken.{AreTaken}
use Rattle.graph_inline.specs.Moved.{moved_shared}
use Rattle.graph_inline.proofs.Moving.{bindings_moved}
use Rattle.graph_inline.proofs.Tables.{marked_taken}
use Rattle.graph_inline.proofs.finish.end_bindings.Goals as goal

pub take_marked-requires-clause-count : goal.take_marked-requires-clause-count
take_marked-requires-clause-count c = ap length c.as_slice.ensures.value ∙ c.in_ok-marks.ensures.count

pub take_marked-requires-clause-closed : goal.take_marked-requires-clause-closed
take_marked-requires-clause-closed c = subst (λ (l : List Bool). AreClosed 0 c.args.from.now l) (sym c.as_slice.ensures.value) c.in_ok-marks.ensures.closed

pub returns-clause-found : goal.returns-clause-found
returns-clause-found c =
    let trees = c.take_marked.new.graph.trees in
    let from = c.args.from.now in
    let outputs = c.args.outputs.now in
    let table = c.in_ok-table.table.items in
    let marks = c.in_ok-marks.marks.items in
    let taken = subst (λ (l : List Bool). AreTaken (Some c.args.instance) from trees l table) c.as_slice.ensures.value c.in_ok-table.ensures.taken in
    let each = marked_taken (Some c.args.instance) from trees marks table outputs c.in_ok-marks.ensures taken c.in_ok-table.ensures.count c.requires in
    bindings_moved None (Some c.args.instance) from trees table outputs c.in_ok-found.found.items each (c.in_ok-found.ensures ∙ ap (λ t. map (moved_shared None t) outputs) c.as_slice-2.ensures.value)
