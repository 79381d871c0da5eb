use Rattle.std.proofs.Common.{sym, subst, List, ℕ}
use Rattle.pair_setup_calls.specs.Graph.{graph_of, Grows, IsClosed, Reaches}
use Rattle.pair_setup_calls.proofs.Extending.{closed-none, reached-exactly}
use Rattle.pair_setup_calls.proofs.reaching.reached.Goals as goal

pub extend-requires : goal.extend-requires
extend-requires c = record { closed = subst (IsClosed (graph_of c.args.graph.now)) (sym c.new-nodes.ensures.empty) (closed-none (graph_of c.args.graph.now)) }

pub returns : goal.returns
returns c =
    reached-exactly (graph_of c.args.graph.now) c.args.start c.extend.new.nodes.keys
    (subst (λ (l : List ℕ). Grows (Reaches (graph_of c.args.graph.now) c.args.start) l c.extend.new.nodes.keys) c.new-nodes.ensures.empty c.in_ok-extend.ensures.grows)
