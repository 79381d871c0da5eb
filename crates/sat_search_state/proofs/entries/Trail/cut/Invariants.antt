use Rattle.std.proofs.Common.{◌≡◌, ℕ, ◌<◌, ◌≤◌, Some, length}
use Rattle.std.specs.Prelude.{slice_get}
use Rattle.sat_search_spec.specs.declared.Entry.{Entry}
use Rattle.sat_search_state.proofs.entries.Trail.cut.Given as goal

abbrev pub invariant-loop-place : goal.invariant-loop-place
invariant-loop-place l = record {
  within : l.place ≤ length l.self-inside.entries.items;
  above : (i : ℕ) (entry : Entry) → l.place ≤ i → slice_get l.self-inside.entries.items i ≡ Some entry → l.level < entry.level;
}

abbrev pub decreases-loop-place : goal.decreases-loop-place
decreases-loop-place l = l.place
