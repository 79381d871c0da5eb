-- From calls on each side to the landing nodes after them: what their callees' runs have to do.
use Rattle.std.specs.Prelude.{◌≡◌, ℕ, ◌<◌, true, false, List, [], Some, is_some, slice_get}
use Rattle.term_core_spec.specs.Value.{Assignment, IsAssignment}
use Rattle.graph_core_spec.specs.TransitionSystem.{after}
use Rattle.graph_core_spec.specs.Graph.{Binding, Call, Graph, Graphs, node_at}
use Rattle.graph_core_spec.specs.Run.{State, Running, Returned, entered, resumed, has_returned, has_failed, system_of}
use Rattle.graph_core_spec.specs.Simulation.{Hold, IsStart, IsRelated}
use Rattle.proof_tree_spec.specs.Cuts.{across}
use Rattle.proof_tree_spec.specs.Frames as frames
use Rattle.proof_tree_spec.specs.Frames.{Side, Frame}
use Rattle.sim_rules_spec.specs.Points.{Convention}
use Rattle.sim_rules_spec.specs.Systems.{Relation, entry_holds, frame_over, hold_over, IsBinaryFine, IsSourceFine}
use Rattle.sim_rules_spec.specs.Calls.{CallPair, Callee, BeginsWell, IsGivenBack}

-- a call of a side's graph: its callee's graph is there, and its landing node
pub record IsCallAt (side : Side) (node : ℕ) (inputs outputs : List Binding) (landing : ℕ) : Type 0 where
  pub callee : ℕ
  pub graph : Graph
  pub here : node_at side.graphs side.outermost node ≡ Some (Call callee inputs outputs landing)
  pub there : slice_get side.graphs callee ≡ Some graph
  pub lands : is_some (node_at side.graphs side.outermost landing) ≡ true

-- where the callee begins, as if nobody waited for it
abbrev pub begins : (side : Side) (node : ℕ) (inputs outputs : List Binding) (landing : ℕ) → IsCallAt side node inputs outputs landing → Assignment → State
begins side node inputs outputs landing is x = Running is.callee is.graph.entry (entered inputs x) []

-- the first moment at which the run has returned, with these values
pub record IsReturn (graphs : Graphs) (outermost : ℕ) (s : State) (t : ℕ) (values : Assignment) : Type 0 where
  pub before : (j : ℕ) → j < t → has_returned (after (system_of graphs outermost) j s) ≡ false
  pub now : after (system_of graphs outermost) t s ≡ Returned values

-- the binary's callee doesn't fail, each returns where the other does, and they give back what is asked
pub record CalleesAgree (binary source : Side) (GivenBack : Assignment → Assignment → Type 0) (x y : State) : Type 0 where
  pub safe : (k : ℕ) → has_failed (after (system_of binary.graphs binary.outermost) k x) ≡ false
  pub forth : (t : ℕ) (r : Assignment) → IsReturn binary.graphs binary.outermost x t r
      → (u : ℕ) × (s : Assignment) × IsReturn source.graphs source.outermost y u s × GivenBack r s
  pub back : (u : ℕ) (s : Assignment) → IsReturn source.graphs source.outermost y u s
      → (t : ℕ) × (r : Assignment) × IsReturn binary.graphs binary.outermost x t r × GivenBack r s

-- the calls of both sides
pub record AreCallsAt (f : Frame) (call landing : Hold State State) : Type 0 where
  pub binary_inputs : List Binding
  pub binary_outputs : List Binding
  pub source_inputs : List Binding
  pub source_outputs : List Binding
  pub binary : IsCallAt f.binary call.binary binary_inputs binary_outputs landing.binary
  pub source : IsCallAt f.source call.source source_inputs source_outputs landing.source

-- from each start at the calls the callees agree, and what they give back gives the relation at the landing nodes
abbrev pub CalleesCross : (c : Convention) (known entry : Relation) (f : Frame) (call landing : Hold State State) (fine_x fine_y : State → Type 0)
    → AreCallsAt f call landing → Type 0
CalleesCross c known entry f call landing fine_x fine_y calls = (x y : Assignment)
    → IsStart (across (frame_over c known f) entry call landing) fine_x fine_y (Running f.binary.outermost call.binary x []) (Running f.source.outermost call.source y [])
    → CalleesAgree f.binary f.source
    (λ r s. IsRelated landing.relation (Running f.binary.outermost landing.binary (resumed calls.binary_outputs r x) [])
    (Running f.source.outermost landing.source (resumed calls.source_outputs s y) []))
    (begins f.binary call.binary calls.binary_inputs calls.binary_outputs landing.binary calls.binary x)
    (begins f.source call.source calls.source_inputs calls.source_outputs landing.source calls.source y)

-- ---- over terms

abbrev pub pair_of : (f : Frame) (call landing : Hold State State) → AreCallsAt f call landing → CallPair
pair_of f call landing calls = record { binary_inputs = calls.binary_inputs; source_inputs = calls.source_inputs; source_outputs = calls.source_outputs }

-- the values with which a callee returns have their sorts, and it gives back what it owes
abbrev pub GivesBack : Convention → Callee → (x r s : Assignment) → Type 0
GivesBack c callee x r s = IsAssignment r × IsAssignment s × IsGivenBack c callee x r s

-- from starts at the calls where the entry relation of the callee holds, the callees agree and give back what they owe
abbrev pub IsRightCallee : (c : Convention) (known : Relation) (f : Frame) (callee : Callee) (call landing : frames.Hold)
    → AreCallsAt f (hold_over c call) (hold_over c landing) → Type 0
IsRightCallee c known f callee call landing calls = (x y : Assignment)
    → IsStart (across (frame_over c known f) (entry_holds f) (hold_over c call) (hold_over c landing)) (IsBinaryFine c f) (IsSourceFine c f)
    (Running f.binary.outermost call.nodes.binary x []) (Running f.source.outermost call.nodes.source y [])
    → BeginsWell c (pair_of f (hold_over c call) (hold_over c landing) calls) callee x y
    → CalleesAgree f.binary f.source (GivesBack c callee x)
    (begins f.binary call.nodes.binary calls.binary_inputs calls.binary_outputs landing.nodes.binary calls.binary x)
    (begins f.source call.nodes.source calls.source_inputs calls.source_outputs landing.nodes.source calls.source y)
