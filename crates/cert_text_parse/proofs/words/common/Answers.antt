use Rattle.std.proofs.Common.{arith}
use Rattle.cert_text_parse.proofs.Tables.{common_ended}
use Rattle.cert_text_parse.proofs.words.common.Goals as goal

pub returns-then-n-text-clause-same : goal.returns-then-n-text-clause-same
returns-then-n-text-clause-same c = omega (arith, common_ended c.args.word.now c.args.text.now c.loop-n.n c.if-n-text.true, c.loop-n.invariant.same)
