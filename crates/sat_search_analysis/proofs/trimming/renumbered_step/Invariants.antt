use Rattle.std.proofs.Common.{◌≡◌, take, map}
use Rattle.sat_search_spec.specs.Trimming.{renumbered}
use Rattle.sat_search_analysis.proofs.trimming.renumbered_step.Given as goal

abbrev pub invariant-loop-number : goal.invariant-loop-number
invariant-loop-number l = l.hints.items ≡ map (renumbered l.given l.places) (take l.number-index l.number-items)
