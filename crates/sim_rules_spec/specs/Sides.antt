-- One side of a frame: its walk, and conditions of several of its visits.
use Rattle.std.specs.Prelude.{◌≡◌, ◌⊎◌, ◌<◌, ℕ, suc, ◌+◌, ◌&&◌, not, Bool, if◌then◌else◌, List, [], ◌∷◌, length, map, get_or, slice_get, unwrap_or, Option, Some, None}
use Rattle.term_core_spec.specs.Term.{Term, not_term}
use Rattle.term_core_spec.specs.Substitution.{State as Terms}
use Rattle.graph_core_spec.specs.declared.Mark.{Mark}
use Rattle.graph_core_spec.specs.Graph.{Graph, Graphs, empty}
use Rattle.graph_core_spec.specs.Run.{IsPath}
use Rattle.visit_walk_spec.specs.declared.Successors.TheVariants.{Nothing}
use Rattle.visit_walk_spec.specs.Shape.{Shape, shape_of, successors_at}
use Rattle.visit_walk_spec.specs.Visits.{Walk, Visit, is_full, is_stop}
use Rattle.visit_walk_spec.specs.Outcomes.{AreVisits, IsCyclicAt}
use Rattle.path_cond_spec.specs.Junctions.{junctions}
use Rattle.path_cond_spec.specs.Conditions.{Conditional, conditionals, conditional_of}
use Rattle.path_cond_spec.specs.Runs.{is_return, is_failure}
use Rattle.proof_tree_spec.specs.Frames.{Side, Frame, binary_marks, source_marks}

abbrev pub visit_mark : Mark → Mark
visit_mark m = record { node = m.node; count = m.count }

-- the graph that a side runs
abbrev pub graph_at : Side → Graph
graph_at side = unwrap_or (slice_get side.graphs side.outermost) empty

-- one side: its graph, its walk, and the terms of its variables where it starts
pub record Way : Type 0 where
  pub graph : Graph
  pub walk : Walk
  pub start : Terms

-- a side of a frame, which stops at these marks, with these bounds
abbrev pub way : Side → (start : ℕ) → (stops bounds : List Mark) → Terms → Way
way side start stops bounds terms = record {
  graph = graph_at side;
  walk = record { shape = shape_of (graph_at side); start = start; stops = map visit_mark stops; bounds = map visit_mark bounds };
  start = terms;
}

abbrev pub binary_way : Frame → Terms → Way
binary_way f terms = way f.binary f.start.nodes.binary (binary_marks f) f.start.binary_bounds terms

abbrev pub source_way : Frame → Terms → Way
source_way f terms = way f.source f.start.nodes.source (source_marks f) f.start.source_bounds terms

-- ---- several visits as one

-- the indices of the visits that pass a test, the first of which is at `from`
abbrev pub members_from : ℕ → (Visit → Bool) → List Visit → List ℕ
members_from from test [] = []
members_from from test (v ∷ visits) = if test v then from ∷ members_from (suc from) test visits else members_from (suc from) test visits

abbrev pub members : (Visit → Bool) → List Visit → List ℕ
members test visits = members_from 0 test visits

-- the visits that pass a test, as one
abbrev pub visits_where : Way → List Visit → (Visit → Bool) → Conditional
visits_where w visits test = conditional_of w.start (conditionals w.graph (junctions w.walk visits) w.start) (members test visits)

abbrev pub condition_where : Way → List Visit → (Visit → Bool) → Term
condition_where w visits test = (visits_where w visits test).condition

-- ---- which visits

abbrev pub returns : Visit → Bool
returns v = is_return v.place

abbrev pub fails : Visit → Bool
fails v = is_failure v.place

-- the visit is the arrival that the mark at this index of the walk's marks counts
abbrev pub arrives : Mark → (index : ℕ) → Visit → Bool
arrives m index v = is_full v.place m (get_or v.counts index 0)

-- it breaks the bound at this index, and is no stop
abbrev pub breaks : Walk → Mark → (index : ℕ) → Visit → Bool
breaks w b index v = not (is_stop w v) && arrives b (length w.stops + index) v

-- no bound is broken, from the one at this index on: a term for each
abbrev pub unbroken : Way → List Visit → (index : ℕ) → List Mark → List Term
unbroken w visits index [] = []
unbroken w visits index (b ∷ bounds) =
    not_term (condition_where w visits (breaks w.walk (visit_mark b) index)) ∷ unbroken w visits (suc index) bounds

-- ---- walks of a restriction

-- a walk of none or more steps goes from the node to the point
abbrev pub Reaches : Graphs → (outermost point node : ℕ) → Type 0
Reaches graphs outermost point node = (node ≡ point) ⊎ IsPath graphs outermost node point

-- at a node that leads to the point the shape is the graph's; at another one walks end
pub record IsCutTo (side : Side) (point : ℕ) (shape : Shape) : Type 0 where
  pub long : length shape ≡ length (shape_of (graph_at side))
  pub each : (n : ℕ) → n < length shape
      → (Reaches side.graphs side.outermost point n × (successors_at shape n ≡ successors_at (shape_of (graph_at side)) n))
      ⊎ ((Reaches side.graphs side.outermost point n → ⊥) × (successors_at shape n ≡ Nothing))

-- the visits of a walk; of a cyclic one there is no list
abbrev pub AreVisitsIf : Walk → Option (List Visit) → Type 0
AreVisitsIf w (Some visits) = AreVisits w visits
AreVisitsIf w None = (n : ℕ) × IsCyclicAt w n
