use Rattle.std.proofs.Common.{refl, ap}
use Rattle.prove_run.proofs.Adding.{no_literals, literal_more, all_the_literals}
use Rattle.prove_run.proofs.writing.add_literals.Goals as goal

pub loop-index-init : goal.loop-index-init
loop-index-init c = no_literals c.args.written.now.items _ refl

pub loop-index-preserved : goal.loop-index-preserved
loop-index-preserved c =
    literal_more c.args.written.now.items c.loop-index.written.items c.push.new.self.items c.args.literals.now c.loop-index.index _ c.index-literals-index.result _
    c.loop-index.invariant c.in-Ok-attempt.ensures.items c.loop-index-test.true c.index-literals-index.is
    (λ i. record { variable = c.variable.ensures.value i; is_negated = c.is_negated.ensures i })

pub returns : goal.returns
returns c = all_the_literals c.args.written.now.items c.loop-index.written.items c.args.literals.now c.loop-index.index c.loop-index-test.false c.loop-index.invariant
