-- What a depth-first search in a graph of numbers finds.
use Rattle.std.specs.Prelude.{◌≡◌, ℕ, List, [], ◌∷◌, ◌++◌, reverse, Contains, Option, Some, None, slice_get, unwrap_or}
use Rattle.visit_walk_spec.specs.DepthFirst.{Takes, Leads, IsOnCycle}
use Rattle.visit_walk.specs.declared.depth_first.Targets.{Targets}
use Rattle.visit_walk.specs.declared.depth_first.Targets.TheVariants.{Zero, One, Two}
use Rattle.visit_walk.specs.declared.depth_first.Status.{Status}
use Rattle.visit_walk.specs.declared.depth_first.Task.{Task}
use Rattle.visit_walk.specs.declared.depth_first.Task.TheVariants.{Take}

-- ---- the graph

abbrev pub numbers_of : Targets → List ℕ
numbers_of Zero = []
numbers_of (One target) = target ∷ []
numbers_of (Two first second) = first ∷ second ∷ []

abbrev pub target_at : List Targets → ℕ → Targets
target_at targets number = unwrap_or (slice_get targets number) Zero

-- the numbers that follow a number
unfoldable pub numbers_at : List Targets → ℕ → List ℕ
numbers_at targets number = numbers_of (target_at targets number)

-- ---- tasks

-- the tasks with those on top that take these, the first of them topmost; the top is the end of the list
abbrev pub with_targets : List Task → Targets → List Task
with_targets tasks Zero = tasks
with_targets tasks (One target) = tasks ++ Take target ∷ []
with_targets tasks (Two first second) = (tasks ++ Take second ∷ []) ++ Take first ∷ []

-- nothing is taken, left or to do
pub record IsUntouched (statuses : ℕ → Option Status) (order : List ℕ) (tasks : List Task) : Type 0 where
  pub none_taken : (number : ℕ) → statuses number ≡ None
  pub none_left : order ≡ []
  pub idle : tasks ≡ []

-- ---- what is found

-- the number is on a cycle, to which a root leads
pub record IsCycleFrom (targets : List Targets) (roots : List ℕ) (number : ℕ) : Type 0 where
  pub root : ℕ
  pub among : Contains roots root
  pub path : Leads (numbers_at targets) root number
  pub cycle : IsOnCycle (numbers_at targets) number

-- a number on a cycle; or, where there is none, the numbers to which the roots lead, in the order in which they are left
abbrev pub IsSearched : List Targets → (roots order : List ℕ) → Option ℕ → Type 0
IsSearched targets roots order (Some number) = IsCycleFrom targets roots number
IsSearched targets roots order None = Takes (numbers_at targets) [] (reverse roots) (reverse order)
