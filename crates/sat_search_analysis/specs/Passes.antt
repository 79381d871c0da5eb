-- The two passes of trimming.
use Rattle.std.specs.Prelude.{◌≡◌, ◌⊎◌, ℕ, ◌+◌, ◌-◌, ◌<◌, ◌≤◌, Bool, List, Some, slice_get, length, get_or}
use Rattle.clause_check_spec.specs.Clause.{Cnf}
use Rattle.clause_check_spec.specs.Log.{Step}
use Rattle.sat_search_spec.specs.Logs.{IsClosing, Lean}
use Rattle.sat_search_spec.specs.Analysis.{IsMarked}

-- hints name given clauses, or steps before their own
abbrev pub IsBackward : (given : ℕ) → List Step → Type 0
IsBackward given log = (i k number : ℕ) (step : Step) → slice_get log i ≡ Some step → slice_get step.hints k ≡ Some number → number ≤ given + i

-- the hint of a number
pub record IsHint (hints : List ℕ) (number : ℕ) : Type 0 where
  pub position : ℕ
  pub there : slice_get hints position ≡ Some number

-- the steps of these hints are marked too
pub record IsMarkedBy (given : ℕ) (hints : List ℕ) (old new : List Bool) : Type 0 where
  pub count : length new ≡ length old
  pub kept : (i : ℕ) → IsMarked old i → IsMarked new i
  pub all : (k number : ℕ) → slice_get hints k ≡ Some number → given < number → number - given - 1 < length old → IsMarked new (number - given - 1)
  pub only : (i : ℕ) → IsMarked new i → IsMarked old i ⊎ IsHint hints (given + (i + 1))

-- what trimming a closing log gives
pub record IsTrimmed (cnf : Cnf) (log trimmed : List Step) : Type 0 where
  pub closing : IsClosing cnf trimmed
  pub lean : (limit : ℕ) → length log ≤ limit → Lean cnf trimmed limit

-- no place is above its index
abbrev pub AreLow : List ℕ → Type 0
AreLow places = (k : ℕ) → get_or places k 0 ≤ k
