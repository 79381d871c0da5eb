-- The visits of a run of graphs, and what the conditions of a walk's visits say of it.
use Rattle.std.specs.Prelude.{◌≡◌, ◌≢◌, ◌⊎◌, ◌↔◌, ℕ, ◌<◌, ◌≤◌, ◌||◌, Bool, true, false, List, [], length, map, drop, All, Some, slice_get, Contains}
use Rattle.term_core_spec.specs.Value.{Assignment}
use Rattle.term_core_spec.specs.Substitution.{State as Terms, values_of}
use Rattle.graph_core_spec.specs.TransitionSystem as walk
use Rattle.graph_core_spec.specs.TransitionSystem.{after, arrivals}
use Rattle.graph_core_spec.specs.declared.Next.{Next}
use Rattle.graph_core_spec.specs.declared.Next.TheVariants as next
use Rattle.graph_core_spec.specs.Graph.{Graph, Graphs, IsValid}
use Rattle.graph_core_spec.specs.Run.{State, Running, Returned, Failed, system_of}
use Rattle.graph_core_spec.specs.declared.Mark.{Mark}
use Rattle.visit_walk_spec.specs.declared.Successors.TheVariants.{Nothing}
use Rattle.visit_walk_spec.specs.Shape.{Shape, shape_of, successors_at}
use Rattle.visit_walk_spec.specs.Visits.{Walk, Visit, marks, edges, is_stop, is_last}
use Rattle.visit_walk_spec.specs.Outcomes.{AreVisits}
use Rattle.path_cond_spec.specs.Junctions.{junctions}
use Rattle.path_cond_spec.specs.Conditions.{Conditional, conditionals, conditional_at}
use Rattle.path_cond_spec.specs.Passages.{holds}

-- ---- the visits of a run

-- the state of a run that is at a place, while no function waits
abbrev pub state_at : ℕ → Next → Assignment → State
state_at outermost (next.At n) values = Running outermost n values []
state_at outermost next.Ret values = Returned values
state_at outermost next.Err values = Failed

-- how often the run has arrived at the node of each mark
abbrev pub counts_after : Graphs → ℕ → List Mark → ℕ → State → List ℕ
counts_after graphs outermost ms k s = map (λ (m : Mark). arrivals (system_of graphs outermost) m.node k s) ms

-- after k steps the run from the state s is at the visit, with these values
pub record IsAt (graphs : Graphs) (outermost : ℕ) (w : Walk) (s : State) (k : ℕ) (v : Visit) (values : Assignment) : Type 0 where
  pub state : after (system_of graphs outermost) k s ≡ state_at outermost v.place values
  pub counts : v.counts ≡ counts_after graphs outermost (marks w) k s

-- at each visit of the run before k steps the walk goes on
abbrev pub GoesOn : Graphs → ℕ → Walk → State → ℕ → Type 0
GoesOn graphs outermost w s k = (i : ℕ) (u : Visit) (values : Assignment) → i < k → IsAt graphs outermost w s i u values → edges w u ≢ []

-- after k steps, and no later than where the walk ends, the run is at the visit
pub record Visits (graphs : Graphs) (outermost : ℕ) (w : Walk) (s : State) (k : ℕ) (v : Visit) (values : Assignment) : Type 0 where
  pub here : IsAt graphs outermost w s k v values
  pub before : GoesOn graphs outermost w s k

-- ---- what is assumed of a walk over a graph

-- the shape is the graph's, but that walks may be ended at some nodes
abbrev pub IsShapeOf : Graph → Shape → Type 0
IsShapeOf g shape = (n : ℕ) → (successors_at shape n ≡ Nothing) ⊎ (successors_at shape n ≡ successors_at (shape_of g) n)

-- the graph is the outermost of a set and valid, the shape is its shape, and these are the walk's visits
pub record IsWalkOver (graphs : Graphs) (outermost : ℕ) (g : Graph) (w : Walk) (visits : List Visit) : Type 0 where
  pub graph : slice_get graphs outermost ≡ Some g
  pub valid : IsValid g
  pub shape : IsShapeOf g w.shape
  pub are : AreVisits w visits

-- the conditional at the visit of an index
abbrev pub conditional : Graph → Walk → List Visit → Terms → ℕ → Conditional
conditional g w visits start i = conditional_at start (conditionals g (junctions w visits) start) i

-- the run from the start, where the variables have the values of the terms of the state
abbrev pub start_of : ℕ → Walk → Terms → Assignment → State
start_of outermost w start a = Running outermost w.start (values_of a start) []

-- ---- what conditions say

-- a run comes to the visit exactly where the condition is true, and then its values are those of the state
pub record IsVisitedWhere (graphs : Graphs) (outermost : ℕ) (w : Walk) (s : State) (a : Assignment) (v : Visit) (c : Conditional) : Type 0 where
  pub visited : holds a c.condition ≡ true → (k : ℕ) × Visits graphs outermost w s k v (values_of a c.state)
  pub only : (k : ℕ) (values : Assignment) → Visits graphs outermost w s k v values
      → (holds a c.condition ≡ true) × IsAt graphs outermost w s k v (values_of a c.state)

-- as long as the walk goes on, the run is at a visit of the list
pub record IsListed (graphs : Graphs) (outermost : ℕ) (w : Walk) (visits : List Visit) (s : State) (k : ℕ) : Type 0 where
  pub visit : Visit
  pub values : Assignment
  pub index : ℕ
  pub there : slice_get visits index ≡ Some visit
  pub visited : Visits graphs outermost w s k visit values

-- the walk ends at each visit of some indices, as it does at the visits of a stop, of the error, and of a bounded arrival
abbrev pub AreEnds : Walk → List Visit → List ℕ → Type 0
AreEnds w visits members = All (λ i. (v : Visit) × (slice_get visits i ≡ Some v) × (edges w v ≡ [])) members

-- the conditional of some visits as one: its condition is true exactly where that of one of them is, and then its values
-- are those of the state there
pub record IsOneOf (a : Assignment) (at : ℕ → Conditional) (members : List ℕ) (c : Conditional) : Type 0 where
  pub found : holds a c.condition ≡ true → (i : ℕ) × Contains members i × (holds a (at i).condition ≡ true)
  pub given : (i : ℕ) → Contains members i → holds a (at i).condition ≡ true
      → (holds a c.condition ≡ true) × (values_of a c.state ≡ values_of a (at i).state)

-- ---- stops, failures and bounds of a run

abbrev pub mark_of : Mark → Mark
mark_of m = record { node = m.node; count = m.count }

abbrev pub is_return : Next → Bool
is_return (next.At n) = false
is_return next.Ret = true
is_return next.Err = false

abbrev pub is_failure : Next → Bool
is_failure (next.At n) = false
is_failure next.Ret = false
is_failure next.Err = true

-- each mark counts at least one arrival
abbrev pub AreCounted : List Mark → Type 0
AreCounted ms = All (λ (m : Mark). 1 ≤ m.count) ms

-- where a run is at a visit, up to which its walk goes on: it has stopped exactly at a return or a stop's visit, it has
-- failed exactly at an error's, and it has broken a bound exactly where the visit is the last that a bound counts
pub record EndsAs (graphs : Graphs) (outermost : ℕ) (w : Walk) (s : State) (k : ℕ) (v : Visit) : Type 0 where
  pub stopped : walk.stopped (system_of graphs outermost) (map mark_of w.stops) k s ≡ (is_return v.place || is_stop w v)
  pub failed : (system_of graphs outermost).failed (after (system_of graphs outermost) k s) ≡ is_failure v.place
  pub kept : is_last v.place w.bounds (drop (length w.stops) v.counts) ≡ false
      ↔ All (λ (b : Mark). arrivals (system_of graphs outermost) b.node k s < b.count) w.bounds
