use Rattle.std.proofs.Common.{refl, ◌∙◌, length}
use Rattle.term_norm_spec.specs.Normal.{normal_add}
use Rattle.term_norm_rules.proofs.words.add_form.Goals as goal

pub returns-clause-within : goal.returns-clause-within
returns-clause-within c =
    c.first_of.ensures.within (length c.args.bank.now)
    (c.value_of_two-value.ensures.within (length c.args.bank.now), tt) c.sum_form.ensures.within

pub returns-clause-tree : goal.returns-clause-tree
unfolding normal_add
returns-clause-tree c = c.first_of.ensures.tree c.args.bank.now ∙ rw (c.value_of_two-value.ensures.test, c.value_of_two-value.ensures.tree, c.sum_form.ensures.tree) refl
