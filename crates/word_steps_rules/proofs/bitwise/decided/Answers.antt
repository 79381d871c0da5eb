use Rattle.std.proofs.Common.{length, sym, ◌∙◌, subst}
use Rattle.word_steps_rules.specs.Bits.{AreIn}
use Rattle.word_steps_rules.proofs.Covered.{decided_true, decided_false, undecided}
use Rattle.word_steps_rules.proofs.bitwise.decided.Goals as goal

pub are_same-requires-clause-first : goal.are_same-requires-clause-first
are_same-requires-clause-first c = subst (AreIn (length c.args.bank.now)) (sym c.words-words.ensures.first) c.requires.bits.left_known

pub are_same-requires-clause-second : goal.are_same-requires-clause-second
are_same-requires-clause-second c = subst (AreIn (length c.args.bank.now)) (sym c.words-words.ensures.second) c.requires.bits.right_known

pub returns-then-are_same : goal.returns-then-are_same
returns-then-are_same c =
    decided_true c.args.bank.now c.args.rows.now c.args.ids c.requires.bits c.requires.words _ _ c.words-words.ensures.first c.words-words.ensures.second
    (sym c.are_same.ensures ∙ c.if-are_same.true)

pub returns-then-differ : goal.returns-then-differ
returns-then-differ c =
    decided_false c.args.bank.now c.args.rows.now c.args.ids c.requires.bits c.requires.words _ _ c.words-words.ensures.first c.words-words.ensures.second
    (sym c.are_same.ensures ∙ c.if-are_same.false) (sym (c.differ.ensures c.args.bank.now) ∙ c.if-differ.true)

pub returns-else-differ : goal.returns-else-differ
returns-else-differ c =
    undecided c.args.bank.now c.args.rows.now c.args.ids c.requires.bits c.requires.words _ _ c.words-words.ensures.first c.words-words.ensures.second
    (sym c.are_same.ensures ∙ c.if-are_same.false) (sym (c.differ.ensures c.args.bank.now) ∙ c.if-differ.false)
