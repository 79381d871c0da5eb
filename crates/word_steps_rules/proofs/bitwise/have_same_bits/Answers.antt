use Rattle.std.proofs.Common.{sym, ◌∙◌}
use Rattle.term_bank.specs.Nodes.{tree_at}
use Rattle.word_steps_rules.proofs.Covered.{have_bits, not_words}
use Rattle.word_steps_rules.proofs.bitwise.have_same_bits.Goals as goal

pub returns-then-not-are_words-clause-same : goal.returns-then-not-are_words-clause-same
returns-then-not-are_words-clause-same c =
    not_words (tree_at c.args.bank.now c.args.ids.left) (tree_at c.args.bank.now c.args.ids.right) (sym c.are_words.ensures ∙ c.if-not-are_words.true)

pub are_same_words-requires-clause-bits : goal.are_same_words-requires-clause-bits
are_same_words-requires-clause-bits c =
    have_bits c.args.bank.now c.cover_both.new.self c.args.ids c.cover_both.ensures.table c.in-Ok-attempt.ensures.both

pub are_same_words-requires-clause-words : goal.are_same_words-requires-clause-words
are_same_words-requires-clause-words c = sym c.are_words.ensures ∙ c.if-not-are_words.false
