use Rattle.std.proofs.Common.{◌≡◌, ◌∙◌, ℕ, ◌+◌, List, [], ◌∷◌, ◌++◌, length, refl, sym, ap, subst, arith, length-append}
use Rattle.graph_core.proofs.Growing.{grows_then}
use Rattle.graph_inline.specs.Taken.{AreTaken}
use Rattle.graph_inline.proofs.Tables.{grows_none, table_push}
use Rattle.graph_inline.proofs.terms.take_marked.Goals as goal

pub loop-id-init : goal.loop-id-init
loop-id-init c = record {
  taken = λ id less marked. absurd (omega (arith, less, ap length c.new-table.ensures.items));
  count = ap length c.new-table.ensures.items;
  grows = grows_none c.args.graph.now;
}

pub loop-id-preserved : goal.loop-id-preserved
loop-id-preserved c =
    let pushed = table_push c.args.instance c.args.from.now c.loop-id.graph.trees c.take_term.new.graph.trees c.args.marks.now c.loop-id.table.items c.loop-id.id c.in_ok-index.index
    c.loop-id.invariant.count c.take_term.ensures.grows.extends c.loop-id.invariant.taken c.in_ok-index.ensures.taken in
    record {
      taken = subst (λ (l : List ℕ). AreTaken c.args.instance c.args.from.now c.take_term.new.graph.trees c.args.marks.now l) (sym c.in_ok-push.ensures.items) pushed;
      count = omega (arith, ap length c.in_ok-push.ensures.items, length-append c.loop-id.table.items (c.in_ok-index.index ∷ []), c.loop-id.invariant.count);
      grows = grows_then c.args.graph.now c.loop-id.graph c.take_term.new.graph c.loop-id.invariant.grows c.take_term.ensures.grows;
    }
