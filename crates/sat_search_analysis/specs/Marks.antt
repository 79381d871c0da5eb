-- The last mark before a place.
use Rattle.std.specs.Prelude.{ℕ, ◌+◌, ◌<◌, ◌≤◌, Bool, List}
use Rattle.sat_search_spec.specs.Analysis.{IsMarked}

abbrev pub AreUnmarked : List Bool → (start end : ℕ) → Type 0
AreUnmarked marks start end = (i : ℕ) → start ≤ i → i < end → IsMarked marks i → ⊥

pub record IsLastMarked (marks : List Bool) (start end place : ℕ) : Type 0 where
  pub from : start ≤ place
  pub before : place < end
  pub marked : IsMarked marks place
  pub last : AreUnmarked marks (place + 1) end
