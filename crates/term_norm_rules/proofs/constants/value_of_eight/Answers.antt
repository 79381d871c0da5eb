use Rattle.std.proofs.Common.{refl, ap, ◌∙◌}
use Rattle.term_norm_spec.specs.Patterns.{constant_of}
use Rattle.term_norm_rules.proofs.constants.value_of_eight.Goals as goal

pub returns-clause-tree : goal.returns-clause-tree
returns-clause-tree c =
    c.constant_of-value.ensures
    ∙ ap constant_of
    (c.octonary.ensures
    ∙ rw (c.known_byte-first.ensures, c.known_byte-second.ensures, c.known_byte-third.ensures, c.known_byte-fourth.ensures, c.known_byte.ensures, c.known_byte-2.ensures, c.known_byte-3.ensures, c.known_byte-4.ensures) refl)
