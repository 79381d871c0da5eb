-- Trimming a log: of its steps those stay that the last one needs.
use Rattle.std.specs.Prelude.{◌≡◌, ℕ, ◌+◌, ◌-◌, ◌<◌, ◌≤◌, nat_le, Bool, if◌then◌else◌, List, Some, slice_get, length, get_or, map}
use Rattle.clause_check_spec.specs.Log.{Step}
use Rattle.sat_search_spec.specs.Analysis.{IsMarked}

-- a marked step after a place has the clause of this number as a hint
pub record IsHinted (log : List Step) (needed : List Bool) (after : ℕ) (number : ℕ) : Type 0 where
  pub place : ℕ
  pub later : after < place
  pub step : Step
  pub there : slice_get log place ≡ Some step
  pub marked : IsMarked needed place
  pub position : ℕ
  pub hint : slice_get step.hints position ≡ Some number

-- the steps from a place on that are marked, and what they need: steps after so many given clauses
pub record IsNeeded (given : ℕ) (log : List Step) (needed : List Bool) (from : ℕ) : Type 0 where
  pub count : length needed ≡ length log
  pub last : IsMarked needed (length log - 1)
  pub hints : (i k number : ℕ) (step : Step) → from ≤ i → slice_get log i ≡ Some step → IsMarked needed i → slice_get step.hints k ≡ Some number
      → given < number → IsMarked needed (number - given - 1)
  pub used : (i : ℕ) → IsMarked needed i → i + 1 < length log → IsHinted log needed i (given + (i + 1))

-- the number of a clause in the trimmed log; `places` has the new places of the steps
abbrev pub renumbered : (given : ℕ) → (places : List ℕ) → ℕ → ℕ
renumbered given places number = if nat_le number given then number else given + (get_or places (number - given - 1) 0 + 1)

abbrev pub trimmed_step : (given : ℕ) → (places : List ℕ) → Step → Step
trimmed_step given places step = record { literals = step.literals; hints = map (renumbered given places) step.hints }

-- a trimmed step comes from a marked one
pub record IsFrom (given : ℕ) (log : List Step) (needed : List Bool) (done : ℕ) (places : List ℕ) (place : ℕ) (trimmed : Step) : Type 0 where
  pub origin : ℕ
  pub step : Step
  pub within : origin < done
  pub there : slice_get log origin ≡ Some step
  pub marked : IsMarked needed origin
  pub moved : get_or places origin 0 ≡ place
  pub same : trimmed ≡ trimmed_step given places step

-- the first steps of a log, trimmed: the marked ones in their order, renumbered
pub record IsTrimming (given : ℕ) (log : List Step) (needed : List Bool) (done : ℕ) (places : List ℕ) (trimmed : List Step) : Type 0 where
  pub count : length places ≡ done
  pub short : length trimmed ≤ done
  pub forth : (i : ℕ) (step : Step) → i < done → slice_get log i ≡ Some step → IsMarked needed i
      → slice_get trimmed (get_or places i 0) ≡ Some (trimmed_step given places step)
  pub back : (j : ℕ) (step : Step) → slice_get trimmed j ≡ Some step → IsFrom given log needed done places j step
  pub rising : (i k : ℕ) → i < k → k < done → IsMarked needed i → get_or places i 0 < get_or places k 0
