use Rattle.std.proofs.Common.{◌+◌, sym, ◌∙◌, ap, subst, arith}
use Rattle.visit_walk.specs.Nodes.{rounds}
use Rattle.visit_walk.proofs.Rounds.{AreRoundsBelow, rounds_begin, rounds_next, rounds_all}
use Rattle.visit_walk.proofs.cycle.add_rounds.Goals as goal

pub loop-node-init : goal.loop-node-init
loop-node-init c = rounds_begin c.args.shape.now c.args.marks.now c.args.targets.now.items c.requires

pub loop-node-preserved : goal.loop-node-preserved
loop-node-preserved c =
    subst (AreRoundsBelow c.args.shape.now c.args.marks.now (c.loop-node.node + 1)) (sym c.in_ok-push.ensures.items)
    (rounds_next c.args.shape.now c.args.marks.now c.loop-node.node c.loop-node.targets.items c.round_targets.result c.loop-node.invariant
    (c.round_targets.ensures ∙ ap (rounds c.args.marks.now c.loop-node.node) c.successors_at.ensures))

pub returns : goal.returns
returns c = rounds_all c.args.shape.now c.args.marks.now c.loop-node.node c.loop-node.targets.items c.loop-node.invariant (omega (arith, c.loop-node-test.false))
