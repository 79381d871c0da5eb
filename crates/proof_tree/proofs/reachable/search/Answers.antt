use Rattle.std.proofs.Common.{[], ◌∷◌, get_or, ap, subst, arith}
use Rattle.graph_core.specs.Graphs.{graph_of}
use Rattle.graph_core_spec.specs.Run.{IsEdge}
use Rattle.proof_tree.specs.Ahead.{Grows}
use Rattle.proof_tree.proofs.Ahead.{walked-start, walked-next, walked-all}
use Rattle.proof_tree.proofs.reachable.search.Goals as goal

pub loop-next-init : goal.loop-next-init
loop-next-init c =
    walked-start (graph_of c.args.graph.now ∷ []) 0 c.args.from c.follow.new.found.keys
    (subst (λ l. Grows (IsEdge (graph_of c.args.graph.now ∷ []) 0 c.args.from) l c.follow.new.found.keys) c.requires c.in_ok-follow.ensures)

pub loop-next-preserved : goal.loop-next-preserved
loop-next-preserved c =
    walked-next (graph_of c.args.graph.now ∷ []) 0 c.args.from c.loop-next.next c.loop-next.found.keys c.follow-in-loop-next.new.found.keys c.loop-next.invariant (omega arith)
    (subst (λ m. Grows (IsEdge (graph_of c.args.graph.now ∷ []) 0 m) c.loop-next.found.keys c.follow-in-loop-next.new.found.keys) (ap (λ l. get_or l c.loop-next.next 0) c.as_slice.ensures.keys) c.in_ok-follow-2.ensures)

pub returns : goal.returns
returns c = walked-all (graph_of c.args.graph.now ∷ []) 0 c.args.from c.loop-next.next c.loop-next.found.keys c.loop-next.invariant (omega arith)
