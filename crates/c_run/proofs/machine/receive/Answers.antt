use Rattle.std.proofs.Common.{rules}
use Rattle.c_run.specs.Frames.{IsSet}
use Rattle.c_run.proofs.Entering.{received_none, received_some}
use Rattle.c_run.proofs.machine.receive.Goals as goal

pub returns-in_default : goal.returns-in_default
returns-in_default c = received_none c.args.frame.now c.args.value c.in_default.is

pub returns-2 : goal.returns-2
returns-2 c = let put : IsSet c.args.frame.now c.set.new.self c.in-Some.number c.in-Ok-attempt.field-0 = search rules in
    received_some c.args.frame.now c.set.new.self c.args.value c.in-Some.number c.in-Ok-attempt.field-0 c.in-Some.is c.in-Ok-attempt.ensures put
