use Rattle.std.proofs.Common.{◌∙◌, arith}
use Rattle.bit_blast.proofs.Traversing.{pushed, pushed_all}
use Rattle.bit_blast.proofs.traversal.push_visits.Goals as goal

pub ids-preserved : goal.ids-preserved
ids-preserved c =
    pushed c.ids.tasks.items c.push.new.self.items c.ids.ids.items c.pop.new.self.items c.in-Some.id c.in-Some.ensures.items c.in-Ok-attempt.ensures.items
    ∙ c.ids.invariant

pub returns : goal.returns
returns c = pushed_all c.ids.tasks.items c.ids.ids.items (omega (arith, c.in_default.ensures.cases.0)) ∙ c.ids.invariant
