use Rattle.std.proofs.Common.{get_or, ap, sym, subst, arith}
use Rattle.std.specs.Prelude.{Contains}
use Rattle.pair_setup_calls.specs.Graph.{graph_of, Grows}
use Rattle.pair_setup_calls.proofs.Extending.{IsExtending, extending-start, extending-next, extended-closed, extended-grows}
use Rattle.pair_setup_calls.proofs.reaching.extend.Goals as goal

pub loop-next-init : goal.loop-next-init
loop-next-init c =
    subst (λ n. IsExtending (graph_of c.args.graph.now) c.args.start c.args.nodes.now.keys n c.add.new.nodes.keys) (sym c.len-next.ensures.len)
    (extending-start (graph_of c.args.graph.now) c.args.start c.args.nodes.now.keys c.add.new.nodes.keys c.requires.closed c.in_ok-add.ensures)

pub loop-next-preserved : goal.loop-next-preserved
loop-next-preserved c =
    extending-next (graph_of c.args.graph.now) c.args.start c.args.nodes.now.keys c.loop-next.next c.loop-next.nodes.keys c.loop-next.invariant
    (get_or c.as_slice.result.now c.loop-next.next 0) c.add_all.new.nodes.keys (omega arith) (ap (λ l. get_or l c.loop-next.next 0) c.as_slice.ensures.keys)
    (subst (λ l. Grows (Contains l) c.loop-next.nodes.keys c.add_all.new.nodes.keys) c.called.ensures c.in_ok-add_all.ensures)

pub returns-clause-grows : goal.returns-clause-grows
returns-clause-grows c =
    extended-grows (graph_of c.args.graph.now) c.args.start c.args.nodes.now.keys c.loop-next.next c.loop-next.nodes.keys c.loop-next.invariant (omega arith)

pub returns-clause-closed : goal.returns-clause-closed
returns-clause-closed c =
    extended-closed (graph_of c.args.graph.now) c.args.start c.args.nodes.now.keys c.loop-next.next c.loop-next.nodes.keys c.loop-next.invariant (omega arith)
