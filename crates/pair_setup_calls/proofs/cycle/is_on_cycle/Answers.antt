use Rattle.std.proofs.Common.{◌≡◌, true, false, get_or, refl, sym, subst, arith}
use Rattle.std.specs.Prelude.{Contains, IsTrue}
use Rattle.pair_setup_calls.specs.Graph.{graph_of, Calls}
use Rattle.pair_setup_calls.proofs.Cycles.{none-more, none-all}
use Rattle.pair_setup_calls.proofs.cycle.is_on_cycle.Goals as goal

pub loop-last-preserved : goal.loop-last-preserved
loop-last-preserved c =
    none-more (λ t. Calls (graph_of c.args.graph.now) t c.args.node) c.as_slice-lasts.result.now c.loop-last.last-index
    (get_or c.as_slice-lasts.result.now c.loop-last.last-index 0) refl c.loop-last.invariant
    (λ call. let found : IsTrue c.is_among.result = c.is_among.ensures.1 (subst (λ l. Contains l c.args.node) (sym c.called.ensures) call) in cc (c.if-is_among.false))

pub returns : goal.returns
returns c = (
  λ no. let bad : false ≡ true = no in cc,
  λ on. absurd (none-all (λ t. Calls (graph_of c.args.graph.now) t c.args.node) c.as_slice-lasts.result.now c.loop-last.last-index (omega arith) c.loop-last.invariant on.last
      (subst (λ l. Contains l on.last) (sym c.as_slice-lasts.ensures.keys) ((c.in_ok-onward.ensures on.last).1 on.onward)) on.back),
)
