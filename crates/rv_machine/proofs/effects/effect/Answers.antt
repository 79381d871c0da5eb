use Rattle.std.proofs.Common.{true, false}
use Rattle.rv_machine.proofs.Executed.{did}
use Rattle.rv_machine.proofs.effects.effect.Goals as goal

pub returns-then-is_aligned-clause-meaning : goal.returns-then-is_aligned-clause-meaning
returns-then-is_aligned-clause-meaning c =
    did c.args.instruction.now c.args.a c.args.b c.args.pc c.attempted-attempt.result c.attempted-attempt.ensures true c.if-is_aligned.ensures.exact

pub returns-else-is_aligned-clause-meaning : goal.returns-else-is_aligned-clause-meaning
returns-else-is_aligned-clause-meaning c =
    did c.args.instruction.now c.args.a c.args.b c.args.pc c.attempted-attempt.result c.attempted-attempt.ensures false c.if-is_aligned.ensures.exact
