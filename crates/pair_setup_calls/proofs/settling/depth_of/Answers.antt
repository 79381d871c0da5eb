use Rattle.std.proofs.Common.{subst, sym}
use Rattle.pair_setup_calls.specs.Graph.{graph_of, IsDeepestOf}
use Rattle.pair_setup_calls.proofs.Deepest.{depth-sum, unbounded-sum, if-none}
use Rattle.pair_setup_calls.proofs.settling.depth_of.Goals as goal

pub returns-clause-is : goal.returns-clause-is
returns-clause-is c =
    depth-sum (graph_of c.args.graph.now) c.args.own.now c.args.depths.now c.args.node c.in_ok-below.below c.own_at.result c.sum.result c.requires
    (subst (λ l. IsDeepestOf c.args.depths.now l c.in_ok-below.below) c.called.ensures c.in_ok-below.ensures.is) c.own_at.ensures c.sum.ensures.is

pub returns-clause-none : goal.returns-clause-none
returns-clause-none c =
    unbounded-sum (graph_of c.args.graph.now) c.args.own.now c.args.depths.now c.args.node c.in_ok-below.below c.own_at.result c.sum.result
    (subst (λ l. IsDeepestOf c.args.depths.now l c.in_ok-below.below) c.called.ensures c.in_ok-below.ensures.is) c.own_at.ensures c.sum.ensures.none

pub returns-in_err-below-clause-none : goal.returns-in_err-below-clause-none
returns-in_err-below-clause-none c =
    if-none c.from_residual.result (λ deepest is. absurd (c.in_err-below.ensures.none deepest (subst (λ l. IsDeepestOf c.args.depths.now l deepest) (sym c.called.ensures) is)))
