use Rattle.c_run.proofs.Acting.{blocks}
use Rattle.c_run.specs.declared.frame.Task.TheVariants as task
use Rattle.c_run.specs.declared.frame.Ending.TheVariants as ending
use Rattle.c_run.proofs.Weighing.{below_pushed, rest_below}
use Rattle.c_run.proofs.statement.block.Goals as goal

pub returns-2-clause-acts : goal.returns-2-clause-acts
returns-2-clause-acts c = blocks _ c.args.frame.now c.args.memory.now c.push.new.self c.args.actions c.in-Ok-attempt.ensures

pub returns-2-clause-below : goal.returns-2-clause-below
returns-2-clause-below c = below_pushed _ c.args.frame.now c.push.new.self (task.Rest c.args.actions) ending.Went c.in-Ok-attempt.ensures (rest_below c.args.actions)
