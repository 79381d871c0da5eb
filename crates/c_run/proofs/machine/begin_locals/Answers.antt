use Rattle.std.proofs.Common.{refl}
use Rattle.c_run.proofs.Entering.{begun_more, begun_all}
use Rattle.c_run.proofs.machine.begin_locals.Goals as goal

pub loop-number-init : goal.loop-number-init
loop-number-init c = refl

pub loop-number-preserved : goal.loop-number-preserved
loop-number-preserved c = begun_more c.args.locals.now.items c.args.types.now c.args.arguments.now c.loop-number.number c.loop-number.locals.items c.push.new.self.items c.argument.result c.loop-number-test.true c.argument.ensures c.in-Ok-attempt.ensures.items c.loop-number.invariant

pub returns : goal.returns
returns c = begun_all c.args.locals.now.items c.args.types.now c.args.arguments.now c.loop-number.number c.loop-number.locals.items c.loop-number-test.false c.loop-number.invariant
