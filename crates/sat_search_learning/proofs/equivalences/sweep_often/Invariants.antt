use Rattle.std.proofs.Common.{◌≤◌, length}
use Rattle.sat_search_learning.specs.Search.{IsSearching}
use Rattle.sat_search_learning.proofs.equivalences.sweep_often.Given as goal

abbrev pub invariant-loop-sweep : goal.invariant-loop-sweep
invariant-loop-sweep l = record {
  searching : IsSearching l.cnf l.search.clauses.clauses l.search.trail l.search.watches l.search.log.items;
  within : length l.search.log.items ≤ l.limit;
}
