use Rattle.std.proofs.Common.{refl, ◌-◌}
use Rattle.c_run.proofs.Driving.{ends_by, starts, starts_nothing}
use Rattle.c_run.proofs.calls.run_body.Goals as goal

pub returns-in_default : goal.returns-in_default
returns-in_default c = starts_nothing _ c.args.call.now.function.now c.args.call.now.arguments.now c.args.after.now c.args.after.now c.args.turns c.body_named.result c.body_named.ensures c.in_default.is

pub returns-2 : goal.returns-2
returns-2 c = ends_by _ _ c.drive.new.memory c.drive.result
    (starts _ c.args.call.now.function.now c.args.call.now.arguments.now c.args.after.now c.args.turns c.body_named.result c.in-Some.body (record { frame = c.in-Ok-attempt.field-0; waiting = c.new.result; left = c.args.turns - 1 })
    c.body_named.ensures c.in-Some.is c.in-Ok-attempt.ensures c.new.ensures.items c.requires refl) c.drive.ensures
