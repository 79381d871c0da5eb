use Rattle.std.proofs.Common.{arith}
use Rattle.graph_core.specs.Graphs.{graph_of}
use Rattle.sim_rules.proofs.Cutting.{cut_all, cut_more, cut_none}
use Rattle.sim_rules.proofs.cut.cut_to.Goals as goal

pub loop-node-init : goal.loop-node-init
loop-node-init c = cut_none c.in-Ok-attempt.field-0.keys c.args.point c.args.shape.now.successors.items

pub loop-node-preserved : goal.loop-node-preserved
loop-node-preserved c =
    let long = c.loop-node.invariant.long in
    cut_more c.in-Ok-attempt.field-0.keys c.args.point c.args.shape.now.successors.items c.loop-node.shape.successors.items c.cut_unless.new.shape.successors.items c.loop-node.node (omega (arith, long)) c.loop-node.invariant c.cut_unless.ensures

pub returns-2 : goal.returns-2
returns-2 c = λ side at.
    cut_all c.in-Ok-attempt.field-0.keys c.args.point c.args.shape.now.successors.items c.loop-node.shape.successors.items c.loop-node.node side (graph_of c.args.graph.now) (omega arith) c.requires at c.in-Ok-attempt.ensures c.loop-node.invariant
