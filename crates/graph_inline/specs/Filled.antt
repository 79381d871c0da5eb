-- The graph with a call inlined, from what the call passes and takes.
use Rattle.std.specs.Prelude.{◌≡◌, ℕ, List, All, map, length, slice_get, Option, Some, None}
use Rattle.term_core_spec.specs.declared.Variable.{Variable}
use Rattle.term_core_spec.specs.Term.{Term}
use Rattle.graph_core_spec.specs.Graph as spec
use Rattle.graph_core.specs.declared.graph.Graph.{Graph}
use Rattle.graph_core.specs.declared.shared.SharedBinding.{SharedBinding}
use Rattle.graph_core.specs.Graphs.{graph_of}
use Rattle.graph_core.specs.Shared.{shared_binding_of, AreSharedBindings, IsSharedNode}
use Rattle.graph_inline_spec.specs.Inlined.{inlined, inlined_nodes}
use Rattle.graph_inline.specs.declared.inlining.Passing.{Passing}
use Rattle.graph_inline.specs.declared.inlining.Tables.{Tables}
use Rattle.graph_inline.specs.Taken.{AllTaken}
use Rattle.graph_inline.specs.Moved.{NodesTaken}

-- the trees of bindings of a graph
abbrev pub trees_of : Graph → List SharedBinding → List spec.Binding
trees_of g bindings = map (shared_binding_of g.trees) bindings

-- what the call at a node passes and takes, or that there is none
pub record Passes (g : Graph) (n : ℕ) (call : Passing) : Type 0 where
  pub number : ℕ
  pub here : slice_get (graph_of g).nodes n ≡ Some (spec.Call number (trees_of g call.inputs.now) (trees_of g call.outputs.now) call.landing)
  pub inputs_within : AreSharedBindings (length g.trees) call.inputs.now
  pub outputs_within : AreSharedBindings (length g.trees) call.outputs.now
  pub nodes_within : All (IsSharedNode (length g.trees)) g.nodes

abbrev pub IsCall : Graph → ℕ → Option Passing → Type 0
IsCall g n (Some call) = Passes g n call
IsCall g n None = (callee : spec.Graph) (own : List Variable) (instance : ℕ) → inlined (graph_of g) n callee own instance ≡ None

-- where the terms of both graphs are
pub record HasTables (caller callee : Graph) (trees : List Term) (instance : ℕ) (tables : Tables) : Type 0 where
  pub of_caller : AllTaken None caller.trees trees tables.caller.items
  pub of_callee : NodesTaken (Some instance) callee.trees trees tables.renamed.items tables.kept.items callee.nodes

abbrev pub filled : (caller : Graph) (n : ℕ) (call : Passing) (callee : Graph) (own : List Variable) (instance : ℕ) → spec.Graph
filled caller n call callee own instance = record {
  nodes = inlined_nodes (graph_of caller) n (graph_of callee) own instance (trees_of caller call.inputs.now) (trees_of caller call.outputs.now) call.landing;
  entry = caller.entry;
}
