use Rattle.std.proofs.Common.{◌-◌, arith}
use Rattle.c_run.proofs.Entering.{called_now}
use Rattle.c_run.proofs.machine.descend.Goals as goal

pub returns-3 : goal.returns-3
returns-3 c = called_now c.args.body.now c.args.machine.now (record { frame = c.replace-frame.new.dest; waiting = c.push.new.self; left = c.args.machine.now.left - 1 }) c.in-Ok-attempt.field-0 c.replace-frame.result c.as_slice.result.now
    c.in-Ok-attempt.ensures c.as_slice.ensures.value c.replace-frame.ensures.value c.replace-frame.ensures.after c.in-Ok-attempt-2.ensures.items (omega (arith, c.requires))
