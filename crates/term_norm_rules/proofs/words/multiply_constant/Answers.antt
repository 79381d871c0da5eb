use Rattle.std.proofs.Common.{refl, ◌∙◌, length}
use Rattle.term_norm_spec.specs.Normal.{multiply_constant}
use Rattle.term_norm_rules.proofs.words.multiply_constant.Goals as goal

pub returns-clause-within : goal.returns-clause-within
returns-clause-within c =
    c.first_of.ensures.within (length c.args.bank.now)
    (c.requires.constant_within, (c.requires.x_within, tt)) (c.requires.x_within, c.requires.constant_within)

pub returns-clause-tree : goal.returns-clause-tree
unfolding multiply_constant
returns-clause-tree c = c.first_of.ensures.tree c.args.bank.now ∙ rw (c.is_zero.ensures, c.is_one.ensures) refl
