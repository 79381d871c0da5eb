use Rattle.std.proofs.Common.{length, sym, ◌∙◌, subst}
use Rattle.word_steps_rules.specs.Bits.{AreIn}
use Rattle.word_steps_rules.proofs.Covered.{same_pairs_by}
use Rattle.word_steps_rules.proofs.bitwise.are_same_pairs.Goals as goal

pub have_same-requires-clause-first : goal.have_same-requires-clause-first
have_same-requires-clause-first c = subst (AreIn (length c.args.bank.now)) (sym c.words.ensures.first) c.requires.some.left_known

pub have_same-requires-clause-second : goal.have_same-requires-clause-second
have_same-requires-clause-second c = subst (AreIn (length c.args.bank.now)) (sym c.words.ensures.second) c.requires.some.right_known

pub have_same-requires-clause-third : goal.have_same-requires-clause-third
have_same-requires-clause-third c = subst (AreIn (length c.args.bank.now)) (sym c.words-2.ensures.first) c.requires.others.left_known

pub have_same-requires-clause-fourth : goal.have_same-requires-clause-fourth
have_same-requires-clause-fourth c = subst (AreIn (length c.args.bank.now)) (sym c.words-2.ensures.second) c.requires.others.right_known

pub returns : goal.returns
returns c =
    c.have_same.ensures
    ∙ same_pairs_by c.args.bank.now c.args.rows.now c.args.some c.args.others c.requires.some c.requires.others c.requires.first c.requires.second _ _ _ _
    c.words.ensures.first c.words.ensures.second c.words-2.ensures.first c.words-2.ensures.second
