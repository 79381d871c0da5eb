use Rattle.std.proofs.Common.{refl, ap, ◌∙◌}
use Rattle.term_core_spec.specs.Value.{quaternary_value}
use Rattle.term_norm_spec.specs.Patterns.{constant_of}
use Rattle.term_norm_rules.proofs.constants.value_of_four.Goals as goal

pub returns-clause-tree : goal.returns-clause-tree
unfolding quaternary_value
returns-clause-tree c =
    c.constant_of-value.ensures
    ∙ ap constant_of (c.in_ok-word.ensures ∙ rw (c.known-first.ensures, c.known-second.ensures, c.known-third.ensures, c.known-fourth.ensures) refl)
