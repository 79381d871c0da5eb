use Rattle.std.proofs.Common.{◌≡◌, ◌<◌, length}
use Rattle.term_bank.specs.Nodes.{tree_at}
use Rattle.term_norm_spec.specs.Patterns.{width_of}
use Rattle.term_norm_rules.proofs.widths.width_of.Given as goal

abbrev pub invariant-loop-width : goal.invariant-loop-width
invariant-loop-width l = record { same : width_of (tree_at l.bank l.place) ≡ width_of (tree_at l.bank l.x); within : l.place < length l.bank }

abbrev pub decreases-loop-width : goal.decreases-loop-width
decreases-loop-width l = l.place
