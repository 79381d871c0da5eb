use Rattle.std.proofs.Common.{refl, ◌∙◌, length}
use Rattle.std.proofs.Math.Bool.{and-true}
use Rattle.term_core_spec.specs.Value.{binary_value}
use Rattle.term_bank.specs.Nodes.{tree_at}
use Rattle.term_norm_spec.specs.Patterns.{is_constant}
use Rattle.term_norm_spec.specs.Normal.{normal_join}
use Rattle.term_norm_rules.proofs.bytes.join_two_form.Goals as goal

pub returns-clause-within : goal.returns-clause-within
returns-clause-within c =
    c.first_of.ensures.within (length c.args.bank.now)
    (c.value_of_two.ensures.within (length c.args.bank.now), tt)
    (c.found_or-found.ensures.within (length c.args.bank.now) c.whole.ensures.within (c.requires.x_within, c.requires.y_within))

pub returns-clause-tree : goal.returns-clause-tree
unfolding normal_join binary_value
returns-clause-tree c =
    c.first_of.ensures.tree c.args.bank.now
    ∙ rw (c.value_of_two.ensures.test, c.value_of_two.ensures.tree, c.found_or-found.ensures.tree c.args.bank.now, c.whole.ensures.tree, and-true (is_constant (tree_at c.args.bank.now c.args.y))) refl
