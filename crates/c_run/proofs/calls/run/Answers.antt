use Rattle.std.proofs.Common.{◌∙◌}
use Rattle.c_run.proofs.Driving.{run_none, run_more, run_back, run_broke}
use Rattle.c_run.proofs.calls.run.Goals as goal

pub returns-then-turns-eq0 : goal.returns-then-turns-eq0
returns-then-turns-eq0 c = run_none _ c.args.call.now.function.now c.args.call.now.arguments.now c.args.call.now.memory.now c.args.turns c.if-turns-eq0.true

pub returns-in-More : goal.returns-in-More
returns-in-More c = run_more _ c.args.call.now.function.now c.args.call.now.arguments.now c.args.call.now.memory.now c.in-Ok-attempt.field-0 c.run_body.new.after c.args.turns c.in-Ok-attempt.ensures c.in-Ok.ended c.in-Ok.ensures c.in-More.is

pub returns-in-Ok : goal.returns-in-Ok
returns-in-Ok c = run_back _ c.args.call.now.function.now c.args.call.now.arguments.now c.args.call.now.memory.now c.in-Ok-attempt.field-0 c.run_body.new.after c.args.turns c.in-Ok-attempt.ensures c.in-Ok.ended c.in-Back.value c.in-Ok.ensures c.in-Back.is

pub returns-in-Fault : goal.returns-in-Fault
returns-in-Fault c =
    c.broken.ensures
    ∙ run_broke _ c.args.call.now.function.now c.args.call.now.arguments.now c.args.call.now.memory.now c.in-Ok-attempt.field-0 c.run_body.new.after c.args.turns c.in-Ok-attempt.ensures c.in-Err.refusal c.in-Fault.stop c.in-Err.ensures c.in-Fault.is
