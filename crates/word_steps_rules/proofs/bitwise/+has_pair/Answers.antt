use Rattle.std.proofs.Common.{arith}
use Rattle.word_steps_rules.specs.Pairs.{pair_in}
use Rattle.word_steps_rules.proofs.Differing.{pair_before}
use Rattle.word_steps_rules.proofs.bitwise.+has_pair.Goals as goal

pub returns-else-is_unequal_pair : goal.returns-else-is_unequal_pair
returns-else-is_unequal_pair t c =
    pair_before c.args.bank.now c.args.words.first.now c.args.words.second.now (pair_in c.args.bank.now c.args.pair) c.args.count c.pair_at-here.result c.is_unequal_pair.result c.has_pair.result
    (omega (arith, c.if-count-eq0.false)) c.pair_at-here.ensures c.is_unequal_pair.ensures c.if-is_unequal_pair.false c.has_pair.ensures
