use Rattle.std.proofs.Common.{arith}
use Rattle.cert_text_feed.proofs.Stacks.{last_first, none_first}
use Rattle.cert_text_feed.proofs.next.first_expected.Goals as goal

pub returns-in-Some : goal.returns-in-Some
returns-in-Some c = last_first c.args.stack.now c.in-Some.last _ (omega (arith, c.in-Some.ensures.0, c.in-Some.ensures.1))

pub returns-in-None : goal.returns-in-None
returns-in-None c = none_first c.args.stack.now c.in-None.ensures
