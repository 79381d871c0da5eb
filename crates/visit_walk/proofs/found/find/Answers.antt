use Rattle.std.proofs.Common.{subst}
use Rattle.visit_walk.specs.Tables.{IsExplored}
use Rattle.visit_walk.specs.Found.{IsCycleFault}
use Rattle.std.specs.Prelude.{IfErr}
use Rattle.visit_walk.proofs.Filled.{fault_at}
use Rattle.visit_walk.proofs.found.find.Goals as goal

pub returns-clause-fault : goal.returns-clause-fault
returns-clause-fault c =
    fault_at c.args.shape.now c.args.marks.now c.args.start c.args.maximum c.explore.new.table c.explore.new.targets.items
    (subst (IsExplored c.args.shape.now c.args.marks.now c.args.start c.args.maximum c.explore.new.table c.explore.new.targets.items) c.if-not-branch.false c.in_ok-explore.ensures)
    c.order_visits.result
    (subst (λ ts. IfErr c.order_visits.result (IsCycleFault c.explore.new.table ts)) c.as_slice.ensures.value c.order_visits.ensures.fault)
