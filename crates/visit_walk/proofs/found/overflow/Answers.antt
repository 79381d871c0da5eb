use Rattle.std.proofs.Common.{subst}
use Rattle.visit_walk.specs.Nodes.{IsCycleAnswer}
use Rattle.visit_walk.proofs.Listed.{too_many}
use Rattle.visit_walk.proofs.found.overflow.Goals as goal

pub returns-in-None : goal.returns-in-None
returns-in-None c =
    too_many c.args.shape.now c.args.marks.now c.args.start c.args.maximum c.len.result c.args.table.now c.requires
    (subst (IsCycleAnswer c.args.shape.now c.args.marks.now c.args.start) c.in-None.is c.in_ok-node.ensures) c.len.ensures.len
