use Rattle.std.proofs.Common.{length, ap}
use Rattle.prove_run.proofs.Adding.{step_more}
use Rattle.prove_run.proofs.writing.add_step.Goals as goal

pub returns-4 : goal.returns-4
returns-4 c =
    step_more c.args.cert.now _ c.args.step.now c.literals.result.now c.hints.result.now (length c.literals-2.result.now) (length c.hints-2.result.now)
    c.in-Ok-attempt-3.ensures.items c.in-Ok-attempt.ensures c.literals.ensures c.in-Ok-attempt-2.ensures c.hints.ensures (ap length c.literals-2.ensures)
    (ap length c.hints-2.ensures)
