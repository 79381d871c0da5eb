use Rattle.std.proofs.Common.{◌≡◌, ◌≤◌, length}
use Rattle.sat_search_spec.specs.Trimming.{IsNeeded}
use Rattle.sat_search_analysis.specs.Passes.{IsBackward}
use Rattle.sat_search_analysis.proofs.trimming.mark_needed.Given as goal

abbrev pub invariant-loop-index : goal.invariant-loop-index
invariant-loop-index l = record {
  within : l.index ≤ length l.log;
  count : length l.needed ≡ length l.log;
  needs : IsBackward l.given l.log → IsNeeded l.given l.log l.initial.needed (length l.log) → IsNeeded l.given l.log l.needed l.index;
}

abbrev pub decreases-loop-index : goal.decreases-loop-index
decreases-loop-index l = l.index
