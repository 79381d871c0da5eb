use Rattle.std.proofs.Common.{◌∙◌, sym, ap, arith, true≢false}
use Rattle.std.specs.Prelude.{is_some}
use Rattle.pair_setup_calls.specs.Graph.{graph_of, IsUnbounded}
use Rattle.pair_setup_calls.proofs.Complete.{unknown-more}
use Rattle.pair_setup_calls.proofs.settling.next_depth.Goals.{then-is_none+in_default, else-is_none}
use Rattle.pair_setup_calls.proofs.settling.next_depth.Goals as goal

pub loop-node-preserved : goal.loop-node-preserved
loop-node-preserved c =
    unknown-more c.args.depths.now (IsUnbounded (graph_of c.args.graph.now) c.args.own.now c.args.depths.now) c.loop-node.node c.loop-node.invariant
    (λ unknown. elim c.if-is_none.branch [
      | then-is_none+in_default w ↦ w.in_default.ensures.none
      | else-is_none w ↦ absurd (true≢false (sym w.if-is_none.ensures ∙ ap is_some unknown))
    ])

pub returns-clause-none : goal.returns-clause-none
returns-clause-none c = λ node within unknown. c.loop-node.invariant node (omega (arith, within, c.loop-node-test.false)) unknown
