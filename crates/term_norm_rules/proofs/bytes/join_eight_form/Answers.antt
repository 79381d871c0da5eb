use Rattle.std.proofs.Common.{refl, ◌∙◌, length}
use Rattle.term_norm_spec.specs.Normal.{normal_join, normal_octonary}
use Rattle.term_norm_rules.proofs.bytes.join_eight_form.Goals as goal

pub returns-clause-within : goal.returns-clause-within
returns-clause-within c =
    c.first_of.ensures.within (length c.args.bank.now)
    (c.value_of_eight-value.ensures.within (length c.args.bank.now), tt)
    (c.found_or-found.ensures.within (length c.args.bank.now) c.whole.ensures.within c.requires)

pub returns-clause-tree : goal.returns-clause-tree
unfolding normal_octonary normal_join
returns-clause-tree c =
    c.first_of.ensures.tree c.args.bank.now
    ∙ rw (c.value_of_eight-value.ensures.test, c.value_of_eight-value.ensures.tree, c.found_or-found.ensures.tree c.args.bank.now, c.whole.ensures.tree) refl
