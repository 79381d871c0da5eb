use Rattle.std.proofs.Common.{◌≡◌, take, length}
use Rattle.sat_search_state.proofs.entries.Trail.shorten.Given as goal

abbrev pub invariant-loop-self : goal.invariant-loop-self
invariant-loop-self l = record {
  variables : l.self.variables ≡ l.initial.self.variables;
  front : take l.place l.self.entries ≡ take l.place l.initial.self.entries;
}

abbrev pub decreases-loop-self : goal.decreases-loop-self
decreases-loop-self l = length l.self.entries
