use Rattle.std.proofs.Common.{length, sym, ◌∙◌, subst}
use Rattle.word_steps_rules.specs.Bits.{AreIn}
use Rattle.word_steps_rules.proofs.Covered.{same_words_by}
use Rattle.word_steps_rules.proofs.bitwise.are_same_words.Goals as goal

pub are_same-requires-clause-first : goal.are_same-requires-clause-first
are_same-requires-clause-first c = subst (AreIn (length c.args.bank.now)) (sym c.words-words.ensures.first) c.requires.bits.left_known

pub are_same-requires-clause-second : goal.are_same-requires-clause-second
are_same-requires-clause-second c = subst (AreIn (length c.args.bank.now)) (sym c.words-words.ensures.second) c.requires.bits.right_known

pub returns : goal.returns
returns c =
    c.are_same.ensures
    ∙ same_words_by c.args.bank.now c.args.rows.now c.args.ids c.requires.bits c.requires.words _ _ c.words-words.ensures.first c.words-words.ensures.second
