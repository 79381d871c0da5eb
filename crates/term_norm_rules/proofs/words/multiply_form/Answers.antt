use Rattle.std.proofs.Common.{refl, ◌∙◌, length}
use Rattle.term_norm_spec.specs.Normal.{normal_multiply}
use Rattle.term_norm_rules.proofs.words.multiply_form.Goals as goal

pub returns-clause-within : goal.returns-clause-within
returns-clause-within c =
    c.first_of.ensures.within (length c.args.bank.now)
    (c.value_of_two.ensures.within (length c.args.bank.now), (c.multiply_constant.ensures.within, (c.multiply_constant-2.ensures.within, tt))) (c.requires.x_within, c.requires.y_within)

pub returns-clause-tree : goal.returns-clause-tree
unfolding normal_multiply
returns-clause-tree c = c.first_of.ensures.tree c.args.bank.now ∙ rw (c.value_of_two.ensures.test, c.value_of_two.ensures.tree, c.is_constant.ensures, c.multiply_constant.ensures.tree, c.is_constant-2.ensures, c.multiply_constant-2.ensures.tree) refl
