use Rattle.std.proofs.Common.{refl, ◌∙◌, length}
use Rattle.term_norm_spec.specs.Normal.{normal_complement}
use Rattle.term_norm_rules.proofs.words.complement_form.Goals as goal

pub returns-clause-within : goal.returns-clause-within
returns-clause-within c =
    c.first_of.ensures.within (length c.args.bank.now)
    (c.value_of_one.ensures.within (length c.args.bank.now), tt) (c.found_or-inner.ensures.within (length c.args.bank.now) c.under_complement.ensures.within c.requires)

pub returns-clause-tree : goal.returns-clause-tree
unfolding normal_complement
returns-clause-tree c = c.first_of.ensures.tree c.args.bank.now ∙ rw (c.value_of_one.ensures.test, c.value_of_one.ensures.tree, c.found_or-inner.ensures.tree c.args.bank.now, c.under_complement.ensures.tree) refl
