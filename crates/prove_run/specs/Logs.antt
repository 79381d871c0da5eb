-- The logs of obligations, or the trail of one that has none.
use Rattle.std.specs.Prelude.{◌≡◌, ℕ, false, Vec, List, [], ◌∷◌, ◌++◌, All, Option, Some, None, slice_get}
use Rattle.std.specs.Global.{Global}
use Rattle.memory_spec.specs.Runs.{Run}
use Rattle.term_core_spec.specs.declared.Sort.TheVariants as sort
use Rattle.term_core_spec.specs.Term.{Term}
use Rattle.term_core_spec.specs.Sort.{sort_of}
use Rattle.term_core_spec.specs.Value.{Truth, IsAssignment, value}
use Rattle.term_norm_spec.specs.Normal.{normal}
use Rattle.clause_check_spec.specs.Log.{Step}
use Rattle.bit_blast_spec.specs.Goal.{cnf_of}
use Rattle.discharge_spec.specs.declared.GoalQuantity.TheVariants.{Terms}
use Rattle.discharge_spec.specs.Closing.{Closes, closing, IsWithin, IsSmall, IsFirstAbove}
use Rattle.sat_search_spec.specs.Logs as logs
use Rattle.tv_limits.specs.declared.TheConstants.{SEARCH_LIMIT}
use Rattle.prove_run_spec.specs.declared.Measure.TheVariants.{Visits, Obligation}
use Rattle.prove_run_spec.specs.Trails as spec
use Rattle.prove_run_spec.specs.Proofs.{AreClosedBy, AreLean}
use Rattle.prove_run.specs.declared.trail.Trail.{Trail}
use Rattle.prove_run.specs.declared.trail.Found.{Found}
use Rattle.prove_run.specs.declared.trail.Found.TheVariants.{Proved, Unproved}
use Rattle.prove_run.specs.Found.{logs_of, trail_of}

abbrev pub AreTruths : List Term → Type 0
AreTruths terms = All (λ (t : Term). sort_of t ≡ Some sort.Truth) terms

-- ---- one obligation

-- the log closes it, and nothing of the log is idle
pub record IsLeanLog (runs : List Run) (goal : Term) (log : List Step) : Type 0 where
  pub closes : closing runs goal log ≡ Closes
  pub lean : logs.Lean (cnf_of (normal runs goal)) log SEARCH_LIMIT

-- the trail is one of the obligation of this number
abbrev pub IsGoalTrail : List Run → (goal : Term) → (number : ℕ) → spec.Trail → Type 0
IsGoalTrail runs goal number (spec.Later side node) = ⊥
IsGoalTrail runs goal number (spec.Large (Visits side) count) = ⊥
IsGoalTrail runs goal number (spec.Large (Obligation n quantity) count) = (n ≡ number) × IsFirstAbove runs goal quantity count
IsGoalTrail runs goal number (spec.Refuted n a) = (n ≡ number) × IsWithin runs goal Terms × IsAssignment a × (value a (normal runs goal) ≡ Truth false)
IsGoalTrail runs goal number (spec.Spent n log) = (n ≡ number) × IsSmall runs goal × logs.Spent (cnf_of (normal runs goal)) log SEARCH_LIMIT

-- its log is added, or this is its trail
abbrev pub HasLog : List Run → (goal : Term) → (number : ℕ) → (old new : List (Vec Step Global)) → Option Trail → Type 0
HasLog runs goal number old new None = (log : List Step) × (logs_of new ≡ logs_of old ++ log ∷ []) × IsLeanLog runs goal log
HasLog runs goal number old new (Some trail) = IsGoalTrail runs goal number (trail_of trail)

-- ---- several

-- each has its log
pub record HaveAll (runs : List Run) (goals : List Term) (found : List (List Step)) : Type 0 where
  pub closed : AreClosedBy runs goals found
  pub lean : AreLean runs goals found

-- one of them has this trail
pub record HasTrail (runs : List Run) (goals : List Term) (trail : spec.Trail) : Type 0 where
  pub number : ℕ
  pub goal : Term
  pub there : slice_get goals number ≡ Some goal
  pub is : IsGoalTrail runs goal number trail

-- it is a trail of one of them, if it is one
abbrev pub IsTrailIf : List Run → List Term → Option Trail → Type 0
IsTrailIf runs goals None = Unit {0}
IsTrailIf runs goals (Some trail) = HasTrail runs goals (trail_of trail)

abbrev pub HaveLogs : List Run → List Term → List (List Step) → Option Trail → Type 0
HaveLogs runs goals found None = HaveAll runs goals found
HaveLogs runs goals found (Some trail) = HasTrail runs goals (trail_of trail)

abbrev pub IsSearched : List Run → List Term → Found → Type 0
IsSearched runs goals (Proved found) = HaveAll runs goals (logs_of found.items)
IsSearched runs goals (Unproved trail) = HasTrail runs goals (trail_of trail)
