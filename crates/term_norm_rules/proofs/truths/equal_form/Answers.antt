use Rattle.std.proofs.Common.{refl, ◌∙◌, length}
use Rattle.term_norm_spec.specs.Normal.{normal_equal}
use Rattle.term_norm_rules.proofs.truths.equal_form.Goals as goal

pub returns-clause-within : goal.returns-clause-within
returns-clause-within c =
    c.first_of.ensures.within (length c.args.bank.now)
    (c.value_of_two.ensures.within (length c.args.bank.now), (tt, (c.requires.y_within, (c.requires.x_within, (c.not_form.ensures.within, (c.not_form-2.ensures.within, (tt, tt))))))) (c.requires.x_within, c.requires.y_within)

pub returns-clause-tree : goal.returns-clause-tree
unfolding normal_equal
returns-clause-tree c = c.first_of.ensures.tree c.args.bank.now ∙ rw (c.value_of_two.ensures.test, c.value_of_two.ensures.tree, c.same.ensures, c.is_true.ensures, c.is_true-2.ensures, c.is_false.ensures, c.not_form.ensures.tree, c.is_false-2.ensures, c.not_form-2.ensures.tree, c.have_unequal_offsets.ensures) refl
