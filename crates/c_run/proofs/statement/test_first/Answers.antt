use Rattle.std.proofs.Common.{[], ◌∷◌}
use Rattle.c_run.specs.declared.frame.Task.TheVariants as task
use Rattle.c_run.proofs.Acting.{and_pushed}
use Rattle.c_run.proofs.statement.test_first.Goals as goal

pub returns-5 : goal.returns-5
returns-5 c = and_pushed c.args.frame.now c.push_do.new.self c.push-3.new.self (task.Repeat c.args.action ∷ task.Step c.args.step ∷ task.Do c.args.body ∷ []) (task.Test c.args.test)
    (and_pushed c.args.frame.now c.push-2.new.self c.push_do.new.self (task.Repeat c.args.action ∷ task.Step c.args.step ∷ []) (task.Do c.args.body)
    (and_pushed c.args.frame.now c.push.new.self c.push-2.new.self (task.Repeat c.args.action ∷ []) (task.Step c.args.step) c.in-Ok-attempt.ensures c.in-Ok-attempt-2.ensures) c.in-Ok-attempt-3.ensures) c.in-Ok-attempt-4.ensures
