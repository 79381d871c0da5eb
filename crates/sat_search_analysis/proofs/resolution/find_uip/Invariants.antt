use Rattle.std.proofs.Common.{◌≡◌, ◌<◌, ◌≤◌, ◌+◌, [], length}
use Rattle.sat_search_spec.specs.Analysis.{IsMarked}
use Rattle.sat_search_analysis.specs.Explained.{ExplainsBack}
use Rattle.sat_search_analysis.proofs.resolution.find_uip.Given as goal

abbrev pub invariant-loop-below : goal.invariant-loop-below
invariant-loop-below l = record {
  count : length l.marks ≡ length l.trail.entries;
  from : l.start ≤ l.place;
  within : l.place < length l.trail.entries;
  marked : IsMarked l.marks l.place;
  explains : ExplainsBack l.clauses.clauses l.trail l.marks [] l.hints.items (l.place + 1);
}

abbrev pub decreases-loop-below : goal.decreases-loop-below
decreases-loop-below l = l.place
