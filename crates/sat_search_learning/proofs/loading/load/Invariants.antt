use Rattle.std.proofs.Common.{◌≡◌, take}
use Rattle.sat_search_spec.specs.Watches.{IsRunning}
use Rattle.sat_search_learning.specs.Search.{IsAtStart}
use Rattle.sat_search_learning.proofs.loading.load.Given as goal

abbrev pub invariant-loop-index : goal.invariant-loop-index
invariant-loop-index l = record {
  running : IsRunning l.clauses.clauses l.trail l.watches;
  first : l.watches.head ≡ 0;
  start : IsAtStart l.initial.trail l.trail;
  added : l.clauses.clauses ≡ take l.index l.cnf.clauses;
}
