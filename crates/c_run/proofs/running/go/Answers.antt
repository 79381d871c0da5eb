use Rattle.std.proofs.Common.{refl}
use Rattle.c_run.proofs.Taking.{taken_none, taken_goes, taken_pauses, taken_stops}
use Rattle.c_run.proofs.Weighing.{goes_below}
use Rattle.c_run.proofs.running.go.Goals as goal

pub tasks-init : goal.tasks-init
tasks-init c = λ left. refl

pub tasks-preserved : goal.tasks-preserved
tasks-preserved c = taken_goes _ c.args.frame.now c.tasks.frame c.args.memory.now c.tasks.memory c.tasks.ending c.take.new.self c.take.result c.tasks.invariant c.take.ensures c.in-Some.task c.in-Some.is c.proceed.new.frame c.proceed.new.memory c.in-Ok-attempt.field-0 c.in-Goes.next c.in-Ok-attempt.ensures.proceeds c.in-Goes.is

pub returns-in_default : goal.returns-in_default
returns-in_default c = taken_none _ c.args.frame.now c.tasks.frame c.args.memory.now c.tasks.memory c.tasks.ending c.take.new.self c.take.result c.tasks.invariant c.take.ensures c.in_default.is

pub returns-in-tasks : goal.returns-in-tasks
returns-in-tasks c = taken_stops _ c.args.frame.now c.tasks.frame c.args.memory.now c.tasks.memory c.tasks.ending c.take.new.self c.take.result c.tasks.invariant c.take.ensures c.in-Some.task c.in-Some.is c.proceed.new.frame c.proceed.new.memory c.in-Err-attempt.field-0 c.in-Err-attempt.ensures.proceeds

pub returns-in-Pauses : goal.returns-in-Pauses
returns-in-Pauses c = taken_pauses _ c.args.frame.now c.tasks.frame c.args.memory.now c.tasks.memory c.tasks.ending c.take.new.self c.take.result c.tasks.invariant c.take.ensures c.in-Some.task c.in-Some.is c.proceed.new.frame c.proceed.new.memory c.in-Ok-attempt.field-0 c.in-Pauses.pause c.in-Ok-attempt.ensures.proceeds c.in-Pauses.is

pub tasks-smaller : goal.tasks-smaller
tasks-smaller c = goes_below c.tasks.frame c.take.new.self c.proceed.new.frame c.take.result c.in-Some.task c.in-Ok-attempt.field-0 c.in-Goes.next c.take.ensures c.in-Some.is c.in-Goes.is c.in-Ok-attempt.ensures.below
