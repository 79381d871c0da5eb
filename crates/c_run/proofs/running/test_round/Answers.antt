use Rattle.c_run.proofs.Proceeding.{tests_true, tests_false, tests_not}
use Rattle.c_run.proofs.running.test_round.Goals as goal

pub returns-clause-proceeds : goal.returns-clause-proceeds
returns-clause-proceeds c = tests_not _ c.args.frame.now c.args.memory.now c.args.test c.args.frame.now c.args.memory.now (λ b. b) c.in-Err-attempt.field-0 c.in-Err-attempt.ensures

pub returns-then-goes_on-clause-proceeds : goal.returns-then-goes_on-clause-proceeds
returns-then-goes_on-clause-proceeds c = tests_true _ c.args.frame.now c.args.memory.now c.args.test c.in-Ok-attempt.field-0 c.in-Ok-attempt.ensures c.if-goes_on.true

pub returns-2-clause-proceeds : goal.returns-2-clause-proceeds
returns-2-clause-proceeds c = tests_false _ c.args.frame.now c.args.memory.now c.args.test c.in-Ok-attempt.field-0 c.in-Ok-attempt.ensures c.if-goes_on.false
