-- The shape of a script: the rules of a proof with their points and counts, without lines and logs; and which shape a
-- choice gives.
use Rattle.std.specs.Prelude.{◌≡◌, ◌<◌, ◌==◌, ◌&&◌, max, suc, Bool, if◌then◌else◌, ℕ, List, [], ◌∷◌, map, Contains, Option, Some, None, slice_get, bytes_eq}
use Rattle.std.specs.List.{list_any}
use Rattle.graph_core_spec.specs.declared.Mark.{Mark}
use Rattle.graph_core_spec.specs.declared.Next.TheVariants as next
use Rattle.graph_core_spec.specs.Graph.{Node, Basic, Cond, Call as CallNode, Graph}
use Rattle.visit_walk_spec.specs.declared.Successors.{Successors}
use Rattle.visit_walk_spec.specs.declared.Successors.TheVariants.{One, Two}
use Rattle.visit_walk_spec.specs.Visits.{Visit, first_of, nexts_of}
use Rattle.visit_walk_spec.specs.DepthFirst.{Leads}
use Rattle.proof_tree_spec.specs.declared.Counts.{Counts}
use Rattle.proof_tree_spec.specs.declared.Nodes.{Nodes}
use Rattle.proof_tree_spec.specs.declared.Place.TheVariants as place
use Rattle.proof_tree_spec.specs.Cuts.{once}
use Rattle.proof_tree_spec.specs.Proofs.{SourcePoint, Point, OnBinary, OnSource, Points}
use Rattle.proof_tree_spec.specs.Frames.{Frame, binary_marks, source_marks, with_goal, goal_at, from_cut}
use Rattle.sim_rules_spec.specs.Sides.{graph_at}
use Rattle.loop_find_spec.specs.declared.LoopPoint.{LoopPoint}
use Rattle.loop_find_spec.specs.declared.LoopPoint.TheVariants.{Test, Body}
use Rattle.loop_find_spec.specs.Choices.{CodeLoop, SourceLoop, AnyLoop, OfCode, OfSource, Choice}

pub data Shape : Type 0 where
  Leaf : Shape
  Restrict : (point : Point) → (count : ℕ) → (rest : Shape) → Shape
  Split : (points : Points) → (enter step : Counts) → (enters steps : Shape) → Shape
  Call : (points : Points) → (enters continues : Shape) → Shape

-- rules on a path
unfoldable pub nesting : Shape → ℕ
nesting Leaf = 1
nesting (Restrict point count rest) = suc (nesting rest)
nesting (Split points enter step enters steps) = suc (max (nesting enters) (nesting steps))
nesting (Call points enters continues) = suc (max (nesting enters) (nesting continues))

-- ---- cuts

-- calls on both sides, of functions of one name: their points, the call nodes, and the landing nodes
pub record CallPair : Type 0 where
  pub points : Points
  pub calls : Nodes
  pub landings : Nodes

-- a loop of the code and one of the source that are matched, or calls that are paired
pub data Cut : Type 0 where
  AtLoop : CodeLoop → SourceLoop → Cut
  AtCalls : CallPair → Cut

-- a call of a side: its point's path and number, the name that it calls, its node and its landing node
pub record CallSite : Type 0 where
  pub path : List ℕ
  pub number : ℕ
  pub callee : List ℕ
  pub node : ℕ
  pub landing : ℕ

-- a loop or a call of the source
pub data Site : Type 0 where
  LoopSite : SourceLoop → Site
  CallsSite : CallSite → Site

-- the first call of the name, and the others
abbrev pub first_call : (name : List ℕ) → List CallSite → Option (CallSite × List CallSite)
first_call name [] = None
first_call name (c ∷ calls) = if bytes_eq c.callee name then Some (c, calls) else elim (first_call name calls) [ None ↦ None | Some p ↦ Some (p.0, c ∷ p.1) ]

abbrev pub pair_of : (binary source : CallSite) → CallPair
pair_of b s = record {
  points = record {
    binary = record { path = b.path; address = b.number };
    source = record { path = s.path; place = place.Call s.number };
  };
  calls = record { binary = b.node; source = s.node };
  landings = record { binary = b.landing; source = s.landing };
}

-- the source's loop of a body and number is one of these
unfoldable pub is_among : List SourceLoop → SourceLoop → Bool
is_among loops l = list_any (λ (o : SourceLoop). bytes_eq o.path l.path && (o.number == l.number)) loops

-- in the order of the source: matched loops with those of the code, in order, and calls with those of their name, in order
unfoldable pub cuts_of : List CodeLoop → List SourceLoop → List CallSite → List Site → List Cut
cuts_of code matched calls [] = []
cuts_of [] matched calls (LoopSite l ∷ sites) = cuts_of [] matched calls sites
cuts_of (b ∷ code) matched calls (LoopSite l ∷ sites) =
    if is_among matched l then AtLoop b l ∷ cuts_of code matched calls sites else cuts_of (b ∷ code) matched calls sites
cuts_of code matched calls (CallsSite c ∷ sites) = elim (first_call c.callee calls) [
  | None ↦ cuts_of code matched calls sites
  | Some p ↦ AtCalls (pair_of p.0 c) ∷ cuts_of code matched p.1 sites
]

-- ---- what walks meet

-- where a run continues after a node; a call goes on at its landing node
abbrev pub passing : Node → Successors
passing (Basic bindings after) = One after
passing (Cond test on_true on_false) = Two on_true on_false
passing (CallNode callee inputs outputs landing) = One (next.At landing)

-- a walk from the start, which ends at stops, meets the node
pub record IsMet (g : Graph) (start : ℕ) (stops : List Mark) (node : ℕ) : Type 0 where
  pub visit : Visit
  pub reached : Leads (nexts_of (map passing g.nodes) stops) (first_of start stops) visit
  pub there : visit.place ≡ next.At node

-- the nodes of a cut, where cuts are at this point of a loop of the source
abbrev pub node_at : LoopPoint → SourceLoop → ℕ
node_at Test l = l.test
node_at Body l = l.start

abbrev pub nodes_of : LoopPoint → Cut → Nodes
nodes_of point (AtLoop b l) = record { binary = b.head; source = node_at point l }
nodes_of point (AtCalls pair) = pair.calls

-- both walks of the frame meet the cut before a stop
pub record IsOpen (point : LoopPoint) (f : Frame) (cut : Cut) : Type 0 where
  pub binary : IsMet (graph_at f.binary) f.start.nodes.binary (binary_marks f) (nodes_of point cut).binary
  pub source : IsMet (graph_at f.source) f.start.nodes.source (source_marks f) (nodes_of point cut).source

-- ---- shapes

abbrev pub source_point : LoopPoint → SourceLoop → SourcePoint
source_point Test l = record { path = l.path; place = place.Test l.number }
source_point Body l = record { path = l.path; place = place.Body l.number }

abbrev pub points_of : LoopPoint → CodeLoop → SourceLoop → Points
points_of point b l = record { binary = b.point; source = source_point point l }

-- where a loop is restricted: at its head, or at the start of its body
abbrev pub restricted_at : AnyLoop → Point
restricted_at (OfCode b) = OnBinary b.point
restricted_at (OfSource l) = OnSource (source_point Body l)

-- a Restrict for each of the loops, in order, and then a Leaf
unfoldable pub ending : (bound : ℕ) → List AnyLoop → Shape
ending bound [] = Leaf
ending bound (l ∷ loops) = Restrict (restricted_at l) bound (ending bound loops)

-- the cut is the first that both walks can meet and that isn't made
pub record IsNext (c : Choice) (cuts : List Cut) (made : List ℕ) (f : Frame) (k : ℕ) (cut : Cut) : Type 0 where
  pub there : slice_get cuts k ≡ Some cut
  pub new : Contains made k → ⊥
  pub met : IsOpen c.point f cut
  pub before : (i : ℕ) (earlier : Cut) → i < k → slice_get cuts i ≡ Some earlier → (Contains made i → ⊥) → IsOpen c.point f earlier → ⊥

-- from a frame the first cut is made, in the order of the cuts, that both walks can meet and that isn't on the path from
-- the root yet, whose cuts are `made`; where there is none, the loops that aren't matched are restricted. Goals have no
-- lines: what walks meet doesn't depend on these
pub data HasShape (c : Choice) (cuts : List Cut) : (made : List ℕ) → Frame → Shape → Type 0 where
  ends : (made : List ℕ) (f : Frame) → ((k : ℕ) (cut : Cut) → slice_get cuts k ≡ Some cut → (Contains made k → ⊥) → IsOpen c.point f cut → ⊥)
      → HasShape c cuts made f (ending c.bound c.loops.chosen)
  cuts_loop : (made : List ℕ) (f : Frame) (k : ℕ) (b : CodeLoop) (l : SourceLoop) (enters steps : Shape) → IsNext c cuts made f k (AtLoop b l)
      → HasShape c cuts (k ∷ made) (with_goal f (goal_at (nodes_of c.point (AtLoop b l)) c.enter [])) enters
      → HasShape c cuts (k ∷ made) (with_goal (from_cut f (nodes_of c.point (AtLoop b l)) l.path []) (goal_at (nodes_of c.point (AtLoop b l)) c.step [])) steps
      → HasShape c cuts made f (Split (points_of c.point b l) c.enter c.step enters steps)
  crosses : (made : List ℕ) (f : Frame) (k : ℕ) (pair : CallPair) (enters continues : Shape) → IsNext c cuts made f k (AtCalls pair)
      → HasShape c cuts (k ∷ made) (with_goal f (goal_at pair.calls once [])) enters
      → HasShape c cuts (k ∷ made) (from_cut f pair.landings pair.points.source.path []) continues
      → HasShape c cuts made f (Call pair.points enters continues)
