use Rattle.std.specs.Prelude.{Ok}
use Rattle.c_run.specs.declared.frame.Next.TheVariants as next
use Rattle.c_run.specs.declared.frame.Ending.TheVariants as ending
use Rattle.c_run.proofs.Proceeding.{by_ending, breaks_at, continues_at, continues_past}
use Rattle.c_run.proofs.Weighing.{below_same, task_weighs}
use Rattle.std.proofs.Common.{refl}
use Rattle.c_run.proofs.running.proceed.Goals as goal

pub returns-in-Went-clause-proceeds : goal.returns-in-Went-clause-proceeds
returns-in-Went-clause-proceeds c = by_ending _ c.args.frame.now c.start.new.frame c.args.memory.now c.start.new.memory c.start.result c.args.task c.args.ending _ c.in-Went.is c.start.ensures.proceeds

pub returns-in-Broke-clause-proceeds : goal.returns-in-Broke-clause-proceeds
returns-in-Broke-clause-proceeds c = by_ending _ c.args.frame.now c.args.frame.now c.args.memory.now c.args.memory.now (Ok (next.Goes c.after_break.result)) c.args.task c.args.ending _ c.in-Broke.is (breaks_at _ c.args.frame.now c.args.memory.now c.args.task c.after_break.result c.after_break.ensures)

pub returns-then-follows_body-clause-proceeds : goal.returns-then-follows_body-clause-proceeds
returns-then-follows_body-clause-proceeds c = by_ending _ c.args.frame.now c.start-then-follows_body.new.frame c.args.memory.now c.start-then-follows_body.new.memory c.start-then-follows_body.result c.args.task c.args.ending _ c.in-Continued.is
    (continues_at _ c.args.frame.now c.args.memory.now c.args.task c.follows_body.result c.start-then-follows_body.new.frame c.start-then-follows_body.new.memory c.start-then-follows_body.result c.follows_body.ensures c.if-follows_body.true c.start-then-follows_body.ensures.proceeds)

pub returns-else-follows_body-clause-proceeds : goal.returns-else-follows_body-clause-proceeds
returns-else-follows_body-clause-proceeds c = by_ending _ c.args.frame.now c.args.frame.now c.args.memory.now c.args.memory.now (Ok (next.Goes ending.Continued)) c.args.task c.args.ending _ c.in-Continued.is
    (continues_past _ c.args.frame.now c.args.memory.now c.args.task c.follows_body.result c.follows_body.ensures c.if-follows_body.false)

pub returns-in-Went-clause-below : goal.returns-in-Went-clause-below
returns-in-Went-clause-below c = c.start.ensures.below

pub returns-in-Broke-clause-below : goal.returns-in-Broke-clause-below
returns-in-Broke-clause-below c = below_same _ c.args.frame.now c.args.frame.now c.after_break.result refl (task_weighs c.args.task)

pub returns-then-follows_body-clause-below : goal.returns-then-follows_body-clause-below
returns-then-follows_body-clause-below c = c.start-then-follows_body.ensures.below

pub returns-else-follows_body-clause-below : goal.returns-else-follows_body-clause-below
returns-else-follows_body-clause-below c = below_same _ c.args.frame.now c.args.frame.now ending.Continued refl (task_weighs c.args.task)
