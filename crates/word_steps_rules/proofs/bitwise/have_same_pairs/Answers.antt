use Rattle.word_steps_rules.proofs.Covered.{have_bits, still_both}
use Rattle.word_steps_rules.proofs.bitwise.have_same_pairs.Goals as goal

pub are_same_pairs-requires-clause-some : goal.are_same_pairs-requires-clause-some
are_same_pairs-requires-clause-some c =
    have_bits c.args.bank.now c.cover_both-2.new.self c.args.some c.cover_both-2.ensures.table
    (still_both c.cover_both.new.self c.cover_both-2.new.self c.args.some c.args.others c.in-Ok-attempt.ensures.both c.in-Ok-attempt-2.ensures.kept c.in-Ok-attempt-2.ensures.both)

pub are_same_pairs-requires-clause-others : goal.are_same_pairs-requires-clause-others
are_same_pairs-requires-clause-others c =
    have_bits c.args.bank.now c.cover_both-2.new.self c.args.others c.cover_both-2.ensures.table c.in-Ok-attempt-2.ensures.both
