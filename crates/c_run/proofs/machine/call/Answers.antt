use Rattle.c_run.proofs.Driving.{calls_ended, calls_nothing, calls_body}
use Rattle.c_run.proofs.machine.call.Goals as goal

pub returns-then-machine-eq0 : goal.returns-then-machine-eq0
returns-then-machine-eq0 c = λ memory. calls_ended _ c.args.machine.now memory c.if-machine-eq0.true

pub returns-in_default : goal.returns-in_default
returns-in_default c = λ memory. calls_nothing _ c.args.machine.now memory c.body_named.result c.body_named.ensures c.in_default.is

pub returns : goal.returns
returns c = λ memory. tt {0}

pub returns-2 : goal.returns-2
returns-2 c = λ memory. calls_body _ c.args.machine.now memory c.body_named.result c.body_named.ensures c.in-Some.body c.descend.new.machine c.in-Some.is c.in-Ok-attempt.ensures
