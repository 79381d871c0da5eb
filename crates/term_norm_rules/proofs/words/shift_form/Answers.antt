use Rattle.std.proofs.Common.{refl, ◌∙◌, length}
use Rattle.term_norm_spec.specs.Normal.{normal_shift}
use Rattle.term_norm_rules.proofs.words.shift_form.Goals as goal

pub returns-clause-within : goal.returns-clause-within
returns-clause-within c =
    c.first_of.ensures.within (length c.args.bank.now)
    (c.value_of_two.ensures.within (length c.args.bank.now), (c.requires.x_within, tt)) (c.requires.x_within, c.requires.y_within)

pub returns-clause-tree : goal.returns-clause-tree
unfolding normal_shift
returns-clause-tree c = c.first_of.ensures.tree c.args.bank.now ∙ rw (c.value_of_two.ensures.test, c.value_of_two.ensures.tree, c.is_zero.ensures) refl
