use Rattle.std.proofs.Common.{arith}
use Rattle.c_run.proofs.Driving.{waits_ended, waits_no_more}
use Rattle.c_run.proofs.machine.take_turn.Goals as goal

pub returns-then-machine-eq0 : goal.returns-then-machine-eq0
returns-then-machine-eq0 c = λ memory. waits_ended _ c.args.machine.now memory c.if-machine-eq0.true

pub returns : goal.returns
returns c = λ memory. waits_no_more _ c.args.machine.now memory (omega (arith, c.if-machine-eq0.false))
