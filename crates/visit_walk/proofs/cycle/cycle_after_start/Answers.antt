use Rattle.std.proofs.Common.{sym, subst}
use Rattle.visit_walk.specs.Nodes.{ArePassed, AreRounds}
use Rattle.visit_walk.proofs.Answered.{cycle_answer}
use Rattle.visit_walk.proofs.cycle.cycle_after_start.Goals as goal

pub returns : goal.returns
returns c =
    cycle_answer c.args.shape.now c.args.marks.now c.args.start c.as_slice-2.result.now c.depth_first.new.order.items c.as_slice.result.now c.in_ok-answer.answer c.requires
    (subst (ArePassed c.args.shape.now c.args.marks.now c.args.start) (sym c.as_slice-2.ensures.keys) c.in_ok-add_all_passed.ensures)
    (subst (AreRounds c.args.shape.now c.args.marks.now) (sym c.as_slice.ensures.value) c.in_ok-add_rounds.ensures) c.in_ok-answer.ensures
