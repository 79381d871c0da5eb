-- Calls of the code as the definitions have them.
use Rattle.std.specs.Prelude.{◌≡◌, ◌<◌, ℕ, List, length, map, Option, Some, None}
use Rattle.term_core_spec.specs.Term.{Term}
use Rattle.graph_core.specs.declared.graph.Graph.{Graph}
use Rattle.graph_core.specs.declared.shared.SharedNode.{SharedNode}
use Rattle.graph_core.specs.Shared.{shared_binding_of, shared_node_of, AreSharedBindings}
use Rattle.graph_core.specs.Graphs.{graph_of}
use Rattle.graph_core_spec.specs.Graph.{Binding, Node, Call}
use Rattle.proof_tree_spec.specs.declared.Nodes.{Nodes}
use Rattle.proof_tree_spec.specs.Frames.{Side, Frame}
use Rattle.sim_rules_spec.specs.Calls.{CallPair}
use Rattle.sim_rules_spec.specs.Crossing.{IsCallAt, AreCallsAt}
use Rattle.sim_rules_spec.specs.Points.{Convention}
use Rattle.sim_rules_spec.specs.Systems.{hold_over}
use Rattle.sim_calls.specs.declared.sites.CallSite.{CallSite}
use Rattle.sim_calls.specs.declared.sites.Calls.{Calls}

-- ---- what a call binds

abbrev pub inputs_of : CallSite → List Binding
inputs_of site = map (shared_binding_of site.graph.now.trees) site.inputs.now

abbrev pub outputs_of : CallSite → List Binding
outputs_of site = map (shared_binding_of site.graph.now.trees) site.outputs.now

abbrev pub pair_by : Calls → CallPair
pair_by calls = record { binary_inputs = inputs_of calls.binary; source_inputs = inputs_of calls.source; source_outputs = outputs_of calls.source }

-- its terms are in its graph's bank
pub record IsWithin (site : CallSite) : Type 0 where
  pub inputs : AreSharedBindings (length site.graph.now.trees) site.inputs.now
  pub outputs : AreSharedBindings (length site.graph.now.trees) site.outputs.now

pub record AreWithin (calls : Calls) : Type 0 where
  pub binary : IsWithin calls.binary
  pub source : IsWithin calls.source

-- ---- a node

-- the node is a call, of one of so many graphs, and its landing node is there
pub record IsCallNode (g : Graph) (graphs : ℕ) (node : SharedNode) (site : CallSite) : Type 0 where
  pub graph_is : site.graph.now ≡ g
  pub node_is : shared_node_of g.trees node ≡ Call site.callee (inputs_of site) (outputs_of site) site.landing
  pub there : site.callee < graphs
  pub lands : site.landing < length g.nodes
  pub within : IsWithin site

abbrev pub IsSiteIn : Graph → (graphs : ℕ) → SharedNode → Option CallSite → Type 0
IsSiteIn g graphs node (Some site) = IsCallNode g graphs node site
IsSiteIn g graphs node None =
    (callee : ℕ) (inputs outputs : List Binding) (landing : ℕ) → shared_node_of g.trees node ≡ Call callee inputs outputs landing
    → callee < graphs → landing < length g.nodes → ⊥

-- ---- a node of a side

pub record IsSite (side : Side) (node : ℕ) (site : CallSite) : Type 0 where
  pub call : IsCallAt side node (inputs_of site) (outputs_of site) site.landing
  pub callee : call.callee ≡ site.callee
  pub within : IsWithin site

-- the call that the node is, if it is one
abbrev pub IsFound : Side → (node : ℕ) → Option CallSite → Type 0
IsFound side node (Some site) = IsSite side node site
IsFound side node None = (inputs outputs : List Binding) (landing : ℕ) → IsCallAt side node inputs outputs landing → ⊥

-- the node is a call of the function with this graph
pub record IsCallTo (side : Side) (node callee : ℕ) : Type 0 where
  pub inputs : List Binding
  pub outputs : List Binding
  pub landing : ℕ
  pub call : IsCallAt side node inputs outputs landing
  pub is_of : call.callee ≡ callee

pub record IsSiteTo (side : Side) (node callee : ℕ) (site : CallSite) : Type 0 where
  pub is_site : IsSite side node site
  pub is_of : site.callee ≡ callee

abbrev pub IsFoundTo : Side → (node callee : ℕ) → Option CallSite → Type 0
IsFoundTo side node callee (Some site) = IsSiteTo side node callee site
IsFoundTo side node callee None = IsCallTo side node callee → ⊥

-- ---- both sides

pub record AreCallsTo (f : Frame) (nodes : Nodes) (binary_callee source_callee : ℕ) (calls : Calls) : Type 0 where
  pub binary : IsSiteTo f.binary nodes.binary binary_callee calls.binary
  pub source : IsSiteTo f.source nodes.source source_callee calls.source

abbrev pub AreFound : Frame → Nodes → (binary_callee source_callee : ℕ) → Option Calls → Type 0
AreFound f nodes binary_callee source_callee (Some calls) = AreCallsTo f nodes binary_callee source_callee calls
AreFound f nodes binary_callee source_callee None =
    IsCallTo f.binary nodes.binary binary_callee → IsCallTo f.source nodes.source source_callee → ⊥

-- the landing nodes
abbrev pub landing_of : Calls → Nodes
landing_of calls = record { binary = calls.binary.landing; source = calls.source.landing }

-- they are what the rule Call asks for, whatever the relations before and after are
abbrev pub calls_at : (c : Convention) (f : Frame) (nodes : Nodes) (binary_callee source_callee : ℕ) (calls : Calls)
    → AreCallsTo f nodes binary_callee source_callee calls → (before after : List Term)
    → AreCallsAt f (hold_over c (record { nodes = nodes; relation = before })) (hold_over c (record { nodes = landing_of calls; relation = after }))
calls_at c f nodes binary_callee source_callee calls are before after = record {
  binary_inputs = inputs_of calls.binary;
  binary_outputs = outputs_of calls.binary;
  source_inputs = inputs_of calls.source;
  source_outputs = outputs_of calls.source;
  binary = are.binary.is_site.call;
  source = are.source.is_site.call;
}
