-- Frames over graphs and terms.
use Rattle.std.specs.Prelude.{◌≢◌, ℕ, List, [], ◌∷◌, ◌++◌, map, All}
use Rattle.term_core_spec.specs.Term.{Term}
use Rattle.graph_core_spec.specs.Graph.{Graphs}
use Rattle.graph_core_spec.specs.Run.{IsPath}
use Rattle.graph_core_spec.specs.declared.Mark.{Mark}
use Rattle.proof_tree_spec.specs.declared.Counts.{Counts}
use Rattle.proof_tree_spec.specs.declared.Nodes.{Nodes}
use Rattle.proof_tree_spec.specs.declared.Cut.{Cut}
use Rattle.proof_tree_spec.specs.declared.Cut.TheVariants.{At, Calls}
use Rattle.proof_tree_spec.specs.Cuts.{Passes}
use Rattle.proof_tree_spec.specs.Scope.{Setting}

-- one side: the run of a graph of a set
pub record Side : Type 0 where
  pub graphs : Graphs
  pub outermost : ℕ

-- where a frame starts: a node on each side, the path of the source body there, what holds there, and the arrivals that
-- are excluded from there on, in order
pub record Start : Type 0 where
  pub nodes : Nodes
  pub path : List ℕ
  pub premises : List Term
  pub binary_bounds : List Mark
  pub source_bounds : List Mark

-- a stop on each side, and what holds of the states there
pub record Goal : Type 0 where
  pub binary : Mark
  pub source : Mark
  pub relation : List Term

-- a node on each side, and what may hold of the states there
pub record Hold : Type 0 where
  pub nodes : Nodes
  pub relation : List Term

-- two runs; what the variables are; what holds at the entry of the function, and at each cut too; a start; the goals and
-- the holds in the order of their cuts, outermost first
pub record Frame : Type 0 where
  pub binary : Side
  pub source : Side
  pub setting : Setting
  pub entry : List Term
  pub start : Start
  pub goals : List Goal
  pub holds : List Hold

abbrev pub binary_marks : Frame → List Mark
binary_marks f = map (λ g. g.binary) f.goals

abbrev pub source_marks : Frame → List Mark
source_marks f = map (λ g. g.source) f.goals

-- ---- the frames of sub-proofs

-- Case: a further premise
abbrev pub with_premise : Start → Term → Start
with_premise s premise = record s { premises = s.premises ++ premise ∷ [] }

-- Restrict: a further bound
abbrev pub with_binary_bound : Start → Mark → Start
with_binary_bound s bound = record s { binary_bounds = s.binary_bounds ++ bound ∷ [] }

abbrev pub with_source_bound : Start → Mark → Start
with_source_bound s bound = record s { source_bounds = s.source_bounds ++ bound ∷ [] }

-- Split and Call: a further goal; Hold: a further hold
abbrev pub with_goal : Frame → Goal → Frame
with_goal f g = record f { goals = f.goals ++ g ∷ [] }

abbrev pub with_hold : Frame → Hold → Frame
with_hold f hold = record f { holds = f.holds ++ hold ∷ [] }

abbrev pub goal_at : Nodes → Counts → List Term → Goal
goal_at nodes counts lines = record {
  binary = record { node = nodes.binary; count = counts.binary };
  source = record { node = nodes.source; count = counts.source };
  relation = lines;
}

-- from a cut on: what holds at entry and the relation there, and no bounds; goals and holds are the same
abbrev pub from_cut : Frame → Nodes → (through : List ℕ) → (lines : List Term) → Frame
from_cut f nodes through lines = record f {
  start = record { nodes = nodes; path = through; premises = f.entry ++ lines; binary_bounds = []; source_bounds = [] };
}

-- ---- cuts that are allowed

-- every goal lets the cut pass on both sides
pub record LetsPass (f : Frame) (nodes : Nodes) : Type 0 where
  pub binary : All (Passes (IsPath f.binary.graphs f.binary.outermost) f.start.nodes.binary nodes.binary) (binary_marks f)
  pub source : All (Passes (IsPath f.source.graphs f.source.outermost) f.start.nodes.source nodes.source) (source_marks f)

-- no goal is at these nodes
pub record IsClear (f : Frame) (nodes : Nodes) : Type 0 where
  pub binary : All (λ (m : Mark). m.node ≢ nodes.binary) (binary_marks f)
  pub source : All (λ (m : Mark). m.node ≢ nodes.source) (source_marks f)

-- at a call, no goal is at the landing nodes either
abbrev pub IsAllowed : Frame → Cut → Type 0
IsAllowed f (At nodes) = LetsPass f nodes
IsAllowed f (Calls call landing) = LetsPass f call × IsClear f landing
