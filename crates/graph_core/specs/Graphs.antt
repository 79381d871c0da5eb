-- A graph of the code as one that the definitions speak of.
use Rattle.std.specs.Prelude.{◌≡◌, ℕ, Box, List, Vec, map, length, Result, IfOk, OnOk, OnErr}
use Rattle.std.specs.Global.{Global}
use Rattle.term_core_spec.specs.Term.{Term}
use Rattle.term_core.specs.declared.term.Term.{Term as CodeTerm}
use Rattle.term_core.specs.Trees.{term_of}
use Rattle.term_bank.specs.Nodes.{Extends}
use Rattle.graph_core_spec.specs.Graph as spec
use Rattle.graph_core.specs.declared.graph.Binding.{Binding}
use Rattle.graph_core.specs.declared.graph.Node.{Node}
use Rattle.graph_core.specs.declared.graph.Node.TheVariants.{Basic, Cond, Call}
use Rattle.graph_core.specs.declared.graph.Graph.{Graph}
use Rattle.graph_core.specs.declared.shared.SharedBinding.{SharedBinding}
use Rattle.graph_core.specs.Shared.{shared_binding_of, shared_node_of, AreSharedBindings}

-- the term in a box
abbrev pub boxed_term : Box CodeTerm Global → Term
boxed_term b = term_of b.value

abbrev pub binding_of : Binding → spec.Binding
binding_of b = record { variable = b.variable; term = boxed_term b.term }

abbrev pub bindings_of : Vec Binding Global → List spec.Binding
bindings_of bindings = map binding_of bindings.items

abbrev pub node_of : Node → spec.Node
node_of (Basic bindings next) = spec.Basic (bindings_of bindings) next
node_of (Cond test on_true on_false) = spec.Cond (boxed_term test) on_true on_false
node_of (Call callee inputs outputs landing) = spec.Call callee (bindings_of inputs) (bindings_of outputs) landing

-- its nodes have the trees of its bank
abbrev pub graph_of : Graph → spec.Graph
graph_of g = record { nodes = map (shared_node_of g.trees) g.nodes; entry = g.entry }

abbrev pub graphs_of : List Graph → spec.Graphs
graphs_of graphs = map graph_of graphs

-- ---- building

-- these are the bindings, over the terms of a bank
pub record AreShared (trees : List Term) (bindings : List spec.Binding) (shared : List SharedBinding) : Type 0 where
  pub within : AreSharedBindings (length trees) shared
  pub are : map (shared_binding_of trees) shared ≡ bindings

-- the graph stays, as its bank grows
pub record Grows (old new : Graph) : Type 0 where
  pub extends : Extends old.trees new.trees
  pub graph : graph_of new ≡ graph_of old

-- the nodes are added, and the number of the first is answered; or, out of memory, none is
pub record Adds {E : Type 0} (old new : Graph) (nodes : List spec.Node) (result : Result ℕ E) : Type 0 where
  pub number : IfOk result (λ number. number ≡ length (graph_of old).nodes)
  pub added : OnOk result (graph_of new ≡ spec.with_nodes (graph_of old) nodes)
  pub kept : OnErr result (graph_of new ≡ graph_of old)
  pub extends : Extends old.trees new.trees
