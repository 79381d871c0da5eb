use Rattle.std.proofs.Common.{◌≡◌, ◌-◌, length}
use Rattle.sat_search_learning.specs.Search.{IsSearching}
use Rattle.sat_search_learning.proofs.search.run.Given as goal

abbrev pub invariant-deciding : goal.invariant-deciding
invariant-deciding l = record {
  searching : IsSearching l.cnf l.search.clauses.clauses l.search.trail l.search.watches l.search.log.items;
  count : length l.search.log.items ≡ length l.initial.search.log.items;
}

abbrev pub decreases-deciding : goal.decreases-deciding
decreases-deciding l = l.search.trail.variables - length l.search.trail.entries
