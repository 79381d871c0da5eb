use Rattle.std.specs.Prelude.{Ok}
use Rattle.c_run.specs.declared.frame.Pause.TheVariants as pause
use Rattle.c_run.proofs.Driving.{goes_not, turns_on}
use Rattle.c_run.proofs.machine.turn.Goals as goal

pub returns : goal.returns
returns c = goes_not _ c.args.machine.now c.args.memory.now c.go.new.frame c.go.new.memory (record c.args.machine.now { frame = c.go.new.frame }) c.in-Err-attempt.field-0 c.in-Err-attempt.ensures

pub returns-in-Ended : goal.returns-in-Ended
returns-in-Ended c = turns_on _ c.args.machine.now c.give_back.new.machine c.args.memory.now c.go.new.memory c.go.new.frame c.in-Ok-attempt.field-0 pause.Ended c.give_back.result c.in-Ok-attempt.ensures c.in-Ended.is c.give_back.ensures

pub returns-in-Waits : goal.returns-in-Waits
returns-in-Waits c = turns_on _ c.args.machine.now c.take_turn.new.machine c.args.memory.now c.go.new.memory c.go.new.frame c.in-Ok-attempt.field-0 pause.Waits (Ok c.take_turn.result) c.in-Ok-attempt.ensures c.in-Waits.is c.take_turn.ensures

pub returns-in-Calls : goal.returns-in-Calls
returns-in-Calls c = turns_on _ c.args.machine.now c.call.new.machine c.args.memory.now c.go.new.memory c.go.new.frame c.in-Ok-attempt.field-0 pause.Calls c.call.result c.in-Ok-attempt.ensures c.in-Calls.is c.call.ensures
