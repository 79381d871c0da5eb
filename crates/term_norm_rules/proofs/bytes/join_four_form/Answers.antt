use Rattle.std.proofs.Common.{refl, ◌∙◌, length}
use Rattle.term_norm_spec.specs.Normal.{normal_join}
use Rattle.term_norm_rules.proofs.bytes.join_four_form.Goals as goal

pub returns-clause-within : goal.returns-clause-within
returns-clause-within c =
    c.first_of-form.ensures.within (length c.args.bank.now)
    (c.in_ok-value.ensures.within (length c.args.bank.now), tt)
    (c.found_or-found.ensures.within (length c.args.bank.now) c.whole.ensures.within (c.requires.0, c.requires.1.0, c.requires.1.1.0, c.requires.1.1.1.0))

pub returns-clause-tree : goal.returns-clause-tree
unfolding normal_join
returns-clause-tree c =
    c.first_of-form.ensures.tree c.args.bank.now
    ∙ rw (c.in_ok-value.ensures.test, c.in_ok-value.ensures.tree, c.found_or-found.ensures.tree c.args.bank.now, c.whole.ensures.tree) refl
