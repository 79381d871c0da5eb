use Rattle.std.proofs.Common.{sym, ◌∙◌, ap}
use Rattle.graph_core_spec.specs.declared.Next.TheVariants as next
use Rattle.visit_walk_spec.specs.Visits.{is_last}
use Rattle.visit_walk.proofs.Counting.{zeros-are}
use Rattle.visit_walk.proofs.Cycles.{first-ended}
use Rattle.visit_walk.proofs.cycle.cyclic_node.Goals as goal

pub returns-then-is_last : goal.returns-then-is_last
returns-then-is_last c =
    first-ended c.args.shape.now c.args.marks.now c.args.start
    (ap (is_last (next.At c.args.start) c.args.marks.now) (zeros-are c.args.marks.now ∙ sym (c.as_slice.ensures.value ∙ c.in_ok-zeros.ensures)) ∙ (sym c.is_last.ensures ∙ c.if-is_last.true))

pub cycle_after_start-requires : goal.cycle_after_start-requires
cycle_after_start-requires c =
    ap (is_last (next.At c.args.start) c.args.marks.now) (zeros-are c.args.marks.now ∙ sym (c.as_slice.ensures.value ∙ c.in_ok-zeros.ensures)) ∙ (sym c.is_last.ensures ∙ c.if-is_last.false)
