use Rattle.std.proofs.Common.{ap, ◌∙◌, subst, true, false, Some}
use Rattle.visit_walk_spec.specs.Visits.{Visit, followed}
use Rattle.visit_walk.specs.Tables.{AreFollowed, visit_at}
use Rattle.visit_walk.specs.declared.table.Key.TheVariants.{Node}
use Rattle.visit_walk.proofs.Exploring.{counts_below, last_read, visit_is, follow_last, follow_ended, follow_on}
use Rattle.visit_walk.proofs.table.follow.Goals as goal

pub index-requires-in-Node : goal.index-requires-in-Node
index-requires-in-Node c = counts_below c.args.table.now c.args.index (Node c.in-Node.node c.in-Node.counts) c.requires.table (c.index.ensures ∙ ap Some c.in-Node.is)

pub returns-then-is_last : goal.returns-then-is_last
returns-then-is_last c =
    follow_last c.args.table.now c.args.shape.now c.args.marks.now c.args.index c.in-Node.node c.in-Node.counts c.requires.table (c.index.ensures ∙ ap Some c.in-Node.is)
    (last_read c.args.table.now c.args.marks.now c.in-Node.node c.in-Node.counts c.index-in-Node.result.now c.as_slice.result.now c.is_last.result true c.index-in-Node.ensures
    c.as_slice.ensures.value c.is_last.ensures c.if-is_last.true)

pub add_successors-requires-clause-there : goal.add_successors-requires-clause-there
add_successors-requires-clause-there c = c.requires.table.counts_there c.args.index (Node c.in-Node.node c.in-Node.counts) (c.index.ensures ∙ ap Some c.in-Node.is)

pub add_successors-requires-clause-counts : goal.add_successors-requires-clause-counts
add_successors-requires-clause-counts c =
    ap (λ (v : Visit). v.counts) (visit_is c.args.table.now c.args.index (Node c.in-Node.node c.in-Node.counts) (c.index.ensures ∙ ap Some c.in-Node.is))

pub returns-in-Return : goal.returns-in-Return
returns-in-Return c =
    follow_ended c.args.table.now c.args.shape.now c.args.marks.now c.args.index c.index.result.now c.requires.table c.index.ensures c.in-Return.is

pub returns-in_ok-targets-in-Node : goal.returns-in_ok-targets-in-Node
returns-in_ok-targets-in-Node c =
    follow_on c.args.table.now c.add_successors.new.table c.args.shape.now c.args.marks.now c.args.index c.in-Node.node c.in-Node.counts c.in_ok-targets-in-Node.targets
    (c.index.ensures ∙ ap Some c.in-Node.is)
    (last_read c.args.table.now c.args.marks.now c.in-Node.node c.in-Node.counts c.index-in-Node.result.now c.as_slice.result.now c.is_last.result false c.index-in-Node.ensures
    c.as_slice.ensures.value c.is_last.ensures c.if-is_last.false)
    (subst (λ s. AreFollowed c.args.table.now c.add_successors.new.table (followed c.args.marks.now (visit_at c.args.table.now c.args.index) s) c.in_ok-targets-in-Node.targets)
    c.successors_at-successors.ensures c.in_ok-targets-in-Node.ensures)
