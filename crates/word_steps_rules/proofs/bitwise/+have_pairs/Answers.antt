use Rattle.std.proofs.Common.{arith}
use Rattle.word_steps_rules.specs.Bits.{bits_in}
use Rattle.word_steps_rules.proofs.Differing.{pairs_before, not_other}
use Rattle.word_steps_rules.proofs.bitwise.+have_pairs.Goals as goal

pub returns-then-is_among : goal.returns-then-is_among
returns-then-is_among t c =
    pairs_before c.args.bank.now c.args.words.first.now c.args.words.second.now c.args.total (bits_in c.args.bank.now c.args.others.first.now) (bits_in c.args.bank.now c.args.others.second.now)
    c.args.count c.pair_at-pair.result c.is_among.result c.have_pairs.result (omega (arith, c.if-count-eq0.false)) c.pair_at-pair.ensures c.is_among.ensures c.if-is_among.true c.have_pairs.ensures

pub returns-else-is_among : goal.returns-else-is_among
returns-else-is_among t c =
    not_other c.args.bank.now c.args.words.first.now c.args.words.second.now c.args.total (bits_in c.args.bank.now c.args.others.first.now) (bits_in c.args.bank.now c.args.others.second.now)
    c.args.count c.pair_at-pair.result c.is_among.result (omega (arith, c.if-count-eq0.false)) c.pair_at-pair.ensures c.is_among.ensures c.if-is_among.false
