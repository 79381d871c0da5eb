use Rattle.std.proofs.Common.{◌≡◌, length}
use Rattle.sat_search_learning.specs.Search.{IsSearching}
use Rattle.sat_search.proofs.solution.finish.Given as goal

abbrev pub invariant-loop-count : goal.invariant-loop-count
invariant-loop-count l = record {
  searching : IsSearching l.cnf l.search.clauses.clauses l.search.trail l.search.watches l.search.log.items;
  count : length l.search.log.items ≡ l._count;
}
