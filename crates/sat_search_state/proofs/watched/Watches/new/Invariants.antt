use Rattle.std.proofs.Common.{◌≡◌, ℕ, [], length, get_or, map}
use Rattle.sat_search_state.proofs.watched.Watches.new.Given as goal

abbrev pub invariant-loop-index : goal.invariant-loop-index
invariant-loop-index l = record {
  count : length l.lists.items ≡ l._index;
  bare : (k : ℕ) → get_or (map (λ v. v.items) l.lists.items) k [] ≡ [];
}
