use Rattle.std.proofs.Common.{◌∙◌, ap, subst, arith, get_or}
use Rattle.std.specs.Prelude.{nat_eq}
use Rattle.indexmap.specs.IndexSet.{insert_key}
use Rattle.visit_walk.specs.Nodes.{passed_from, Adds}
use Rattle.visit_walk.proofs.Passing.{passing_begin, passing_next, passing_all}
use Rattle.visit_walk.proofs.cycle.add_all_passed.Goals as goal

pub loop-next-init : goal.loop-next-init
loop-next-init c =
    passing_begin c.args.shape.now c.args.marks.now c.args.start c.insert.new.self.keys (c.in_ok-insert.ensures.keys ∙ ap (λ ks. insert_key nat_eq ks c.args.start) c.requires)

pub loop-next-preserved : goal.loop-next-preserved
loop-next-preserved c =
    passing_next c.args.shape.now c.args.marks.now c.args.start c.loop-next.next (get_or c.as_slice.result.now c.loop-next.next 0) c.loop-next.found.keys c.add_passed_from.new.found.keys
    c.loop-next.invariant (omega arith) (ap (λ l. get_or l c.loop-next.next 0) c.as_slice.ensures.keys)
    (subst (λ s. Adds (passed_from c.args.marks.now s) c.loop-next.found.keys c.add_passed_from.new.found.keys) c.successors_at.ensures c.in_ok-add_passed_from.ensures)

pub returns : goal.returns
returns c = passing_all c.args.shape.now c.args.marks.now c.args.start c.loop-next.next c.loop-next.found.keys c.loop-next.invariant (omega arith)
