use Rattle.std.proofs.Common.{refl, ◌∙◌, length}
use Rattle.term_norm_spec.specs.Normal.{normal_byte}
use Rattle.term_norm_rules.proofs.bytes.byte_form.Goals as goal

pub returns-clause-within : goal.returns-clause-within
returns-clause-within c =
    c.first_of.ensures.within (length c.args.bank.now)
    (c.value_of_one.ensures.within (length c.args.bank.now), tt) (c.found_or-found.ensures.within (length c.args.bank.now) c.part.ensures.within c.requires)

pub returns-clause-tree : goal.returns-clause-tree
unfolding normal_byte
returns-clause-tree c = c.first_of.ensures.tree c.args.bank.now ∙ rw (c.value_of_one.ensures.test, c.value_of_one.ensures.tree, c.found_or-found.ensures.tree c.args.bank.now, c.part.ensures.tree) refl
