-- What a caller relies on at a pair of calls: the callee, what both call nodes bind, and that the callee is right.
use Rattle.std.specs.Prelude.{◌≡◌, ◌⊎◌, ℕ, suc, ◌+◌, ◌<◌, List, [], ◌∷◌, ◌++◌, length, slice_get}
use Rattle.memory_spec.specs.Zones.{Zone}
use Rattle.term_core_spec.specs.Term.{Term, equal}
use Rattle.term_core_spec.specs.Value.{Assignment}
use Rattle.graph_core_spec.specs.Graph.{Binding, Graphs}
use Rattle.graph_core_spec.specs.Run.{Running}
use Rattle.decompile_spec.specs.Blocks.{call_inputs, tail_inputs}
use Rattle.c_types_spec.specs.declared.Scalar.{Scalar}
use Rattle.c_types_spec.specs.Core.{Body}
use Rattle.c_graph_spec.specs.State.{local}
use Rattle.c_graph_spec.specs.Layout.{set_local}
use Rattle.c_graph_spec.specs.SourceGraph.{body_number, graphs_of}
use Rattle.proof_tree_spec.specs.Scope.{Setting}
use Rattle.proof_tree_spec.specs.Frames.{Side, Start, Goal, Hold, Frame}
use Rattle.sim_rules_spec.specs.Calling.{register}
use Rattle.sim_rules_spec.specs.Calls.{CallPair, Callee}
use Rattle.sim_rules_spec.specs.Crossing.{AreCallsAt, IsRightCallee, pair_of}
use Rattle.sim_rules_spec.specs.Systems.{Relation, hold_over}
use Rattle.sim_inline_laws.specs.Runs.{RunsOn}
use Rattle.agreement_laws.specs.EntryFrame.{Pair, place_of, convention_of, result_term, widened, entry_frame, entry_premises, scope_of}
use Rattle.agreement_laws.specs.Statements.{IsPair, IsSimulatedAtEntry}

-- another function of the executable and the unit
abbrev pub function_of : Pair → (entry stack : ℕ) → Body → Pair
function_of q entry stack body = record q { entry = entry; stack = stack; body = body }

-- the registers of arguments have the callee's first locals, widened
abbrev pub argument_lines : (number : ℕ) → List Scalar → List Term
argument_lines number [] = []
argument_lines number (type ∷ types) = equal (register (10 + number)) (widened type (local number type)) ∷ argument_lines (suc number) types

-- a function as the callee of a call
abbrev pub callee_of : Pair → Callee
callee_of p = record {
  stack = p.stack;
  arguments = argument_lines 0 p.body.signature.parameters;
  result = result_term p.body.signature.result;
}

-- ---- frames of a proof of a function

-- the graphs that a proof of a function is over: the set's, or graphs of its own with calls inlined, beside the set's; and
-- which variables its lines may speak of
pub record Base : Type 0 where
  pub binary : Side
  pub source : Side
  pub setting : Setting

-- nothing is inlined
abbrev pub own_base : Pair → Base
own_base q = record { binary = (entry_frame q).binary; source = (entry_frame q).source; setting = scope_of q.body }

-- a frame that starts anywhere in the graphs, with any goals and holds
abbrev pub frame_in : Pair → Base → Start → List Goal → List Hold → Frame
frame_in q b start goals holds = record {
  binary = b.binary;
  source = b.source;
  setting = b.setting;
  entry = entry_premises q;
  start = start;
  goals = goals;
  holds = holds;
}

-- the graphs of a set are there under their numbers, and run there as they do in the set
pub record HasSet (set : Graphs) (side : Side) : Type 0 where
  pub there : (h : ℕ) → h < length set → slice_get side.graphs h ≡ slice_get set h
  pub run : (h : ℕ) → h < length set → (m : ℕ) (values : Assignment) → RunsOn (record { graphs = set; outermost = h }) (record { graphs = side.graphs; outermost = h }) (Running h m values [])

-- ---- calls

-- from a number on, an argument for each parameter, whatever its term
abbrev pub IsPassed : (number : ℕ) → List Scalar → List Binding → Type 0
IsPassed number [] inputs = inputs ≡ []
IsPassed number (type ∷ types) inputs = (term : Term) × (rest : List Binding) × (inputs ≡ set_local number type term ++ rest) × IsPassed (suc number) types rest

-- what the calls of a function bind where another one begins: in code a return address, or at a tail call none; in C an
-- argument of its type for each parameter
pub record BindsCall (p : Pair) (calls : CallPair) : Type 0 where
  pub binary : ((back : ℕ) × (calls.binary_inputs ≡ call_inputs back)) ⊎ (calls.binary_inputs ≡ tail_inputs)
  pub source : IsPassed 0 p.body.signature.parameters calls.source_inputs

-- where the frame at the entry of a function is simulated, it is right as the callee of every call of it
abbrev pub CalleesAreRight : Type 0
CalleesAreRight = (q : Pair) (b : Base) (entry stack : ℕ) (body : Body) (zone : Zone) (known : Relation) (start : Start) (goals : List Goal) (holds : List Hold) (call landing : Hold)
    (calls : AreCallsAt (frame_in q b start goals holds) (hold_over (convention_of q zone) call) (hold_over (convention_of q zone) landing))
    → HasSet q.graphs b.binary → HasSet (graphs_of q.unit (place_of q)) b.source
    → IsPair (function_of q entry stack body) → IsSimulatedAtEntry (function_of q entry stack body)
    → calls.binary.callee ≡ q.numbering.graph_number entry → calls.source.callee ≡ body_number body.name q.unit.bodies → calls.binary_outputs ≡ []
    → BindsCall (function_of q entry stack body)
    (pair_of (frame_in q b start goals holds) (hold_over (convention_of q zone) call) (hold_over (convention_of q zone) landing) calls)
    → IsRightCallee (convention_of q zone) known (frame_in q b start goals holds) (callee_of (function_of q entry stack body)) call landing calls
