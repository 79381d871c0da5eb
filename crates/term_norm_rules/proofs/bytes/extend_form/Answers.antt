use Rattle.std.proofs.Common.{refl, ◌∙◌, length}
use Rattle.term_norm_spec.specs.Normal.{normal_extend}
use Rattle.term_norm_rules.proofs.bytes.extend_form.Goals as goal

pub returns-clause-within : goal.returns-clause-within
returns-clause-within c =
    c.first_of.ensures.within (length c.args.bank.now)
    (c.value_of_one.ensures.within (length c.args.bank.now), (c.requires, tt)) c.requires

pub returns-clause-tree : goal.returns-clause-tree
unfolding normal_extend
returns-clause-tree c = c.first_of.ensures.tree c.args.bank.now ∙ rw (c.value_of_one.ensures.test, c.value_of_one.ensures.tree, c.has_width.ensures) refl
