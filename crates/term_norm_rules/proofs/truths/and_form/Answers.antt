use Rattle.std.proofs.Common.{refl, ◌∙◌, length}
use Rattle.term_norm_spec.specs.Normal.{normal_and}
use Rattle.term_norm_rules.proofs.truths.and_form.Goals as goal

pub returns-clause-within : goal.returns-clause-within
returns-clause-within c =
    c.first_of.ensures.within (length c.args.bank.now)
    (c.value_of_two.ensures.within (length c.args.bank.now), (c.requires.x_within, (c.requires.y_within, (c.requires.y_within, (c.requires.x_within, (c.requires.x_within, (tt, tt))))))) (c.requires.x_within, c.requires.y_within)

pub returns-clause-tree : goal.returns-clause-tree
unfolding normal_and
returns-clause-tree c = c.first_of.ensures.tree c.args.bank.now ∙ rw (c.value_of_two.ensures.test, c.value_of_two.ensures.tree, c.is_false.ensures, c.is_false-2.ensures, c.is_true.ensures, c.is_true-2.ensures, c.same.ensures, c.are_negations.ensures) refl
