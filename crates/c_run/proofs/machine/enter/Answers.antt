use Rattle.std.proofs.Common.{refl}
use Rattle.c_run.proofs.Entering.{entered}
use Rattle.c_run.proofs.machine.enter.Goals as goal

pub returns-3 : goal.returns-3
returns-3 c = entered c.args.body.now c.args.arguments.now c.as_slice-types.result.now c.idle-frame.result (record c.idle-frame.result { locals = c.begin_locals.new.locals }) c.push_do.new.self _
    c.as_slice-types.ensures.value c.idle-frame.ensures refl c.in-Ok-attempt.ensures refl c.in-Ok-attempt-2.ensures c.deref.ensures
