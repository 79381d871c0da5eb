use Rattle.std.proofs.Common.{◌≤◌, ◌<◌, ◌+◌}
use Rattle.sat_search_analysis.specs.Marks.{AreUnmarked}
use Rattle.sat_search_analysis.proofs.marks.last_marked_from.Given as goal

abbrev pub invariant-loop-place : goal.invariant-loop-place
invariant-loop-place l = record { from : l.below ≤ l.place; before : l.place < l.end; unmarked : AreUnmarked l.marks (l.place + 1) l.end }

abbrev pub decreases-loop-place : goal.decreases-loop-place
decreases-loop-place l = l.place
