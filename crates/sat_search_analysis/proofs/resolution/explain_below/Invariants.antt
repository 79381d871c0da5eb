use Rattle.std.proofs.Common.{◌≡◌, ◌≤◌, length}
use Rattle.sat_search_analysis.specs.Explained.{ExplainsBack, AreLearntBelow}
use Rattle.sat_search_analysis.proofs.resolution.explain_below.Given as goal

abbrev pub invariant-loop-marked : goal.invariant-loop-marked
invariant-loop-marked l = record {
  count : length l.marks ≡ length l.trail.entries;
  within : l.place ≤ l.end;
  explains : ExplainsBack l.clauses.clauses l.trail l.marks l.learnt.items l.hints.items l.place;
  learnt_below : AreLearntBelow l.trail l.end l.initial.learnt.items l.learnt.items;
}

abbrev pub decreases-loop-marked : goal.decreases-loop-marked
decreases-loop-marked l = l.place
