use Rattle.prove_run.proofs.Adding.{nothing_more, steps_more, all_steps}
use Rattle.prove_run.proofs.writing.add_steps.Goals as goal

pub loop-index-init : goal.loop-index-init
loop-index-init c = nothing_more c.args.cert.now

pub loop-index-preserved : goal.loop-index-preserved
loop-index-preserved c =
    steps_more c.args.cert.now c.loop-index.cert c.add_step.new.cert c.args.log.now c.loop-index.index c.index-log-index.result _ c.loop-index.invariant c.in-Ok-attempt.ensures
    c.loop-index-test.true c.index-log-index.is

pub returns : goal.returns
returns c = all_steps c.args.cert.now c.loop-index.cert c.args.log.now c.loop-index.index c.loop-index-test.false c.loop-index.invariant
