-- Graphs of basic, conditional and call nodes, and when one is valid.
use Rattle.std.specs.Prelude.{◌≡◌, ℕ, suc, ◌<◌, List, [], ◌∷◌, ◌++◌, length, All, Option, Some, ⊤, slice_get, option_and_then}
use Rattle.std.specs.Option.{option_map_or}
use Rattle.term_core_spec.specs.declared.Variable.{Variable}
use Rattle.term_core_spec.specs.declared.Sort.TheVariants.{Truth}
use Rattle.term_core_spec.specs.Term.{Term}
use Rattle.term_core_spec.specs.Sort.{sort_of}
use Rattle.graph_core_spec.specs.declared.Next.{Next}
use Rattle.graph_core_spec.specs.declared.Next.TheVariants as next

-- a variable, and the term whose value it gets
pub record Binding : Type 0 where
  pub variable : Variable
  pub term : Term

-- a basic node binds variables, all at once, and continues at the next node. A conditional one continues by a test.
-- A call node runs the callee's graph, whose variables it binds by `inputs`; where that returns it binds variables of
-- its own by `outputs`, whose terms speak of the callee's variables, and continues at its landing node
pub data Node : Type 0 where
  Basic : (bindings : List Binding) → (next : Next) → Node
  Cond : (test : Term) → (on_true on_false : Next) → Node
  Call : (callee : ℕ) → (inputs outputs : List Binding) → (landing : ℕ) → Node

-- the nodes, and at which of them a run begins. Landing nodes are basic nodes that bind nothing: in the graphs that are
-- made here the entry is one, and each call has one of its own, to which nothing else leads
pub record Graph : Type 0 where
  pub nodes : List Node
  pub entry : ℕ

-- ---- validity: each node that is named is there, and each term is well sorted

-- the term has the variable's sort
abbrev pub IsBinding : Binding → Type 0
IsBinding b = sort_of b.term ≡ Some b.variable.sort

abbrev pub AreBindings : List Binding → Type 0
AreBindings bindings = All IsBinding bindings

abbrev pub IsTest : Term → Type 0
IsTest t = sort_of t ≡ Some Truth

-- where a run continues is one of so many nodes, if it is a node
abbrev pub IsNext : ℕ → Next → Type 0
IsNext count (next.At n) = n < count
IsNext count next.Ret = ⊤
IsNext count next.Err = ⊤

abbrev pub IsNode : ℕ → Node → Type 0
IsNode count (Basic bindings after) = AreBindings bindings × IsNext count after
IsNode count (Cond test on_true on_false) = IsTest test × IsNext count on_true × IsNext count on_false
IsNode count (Call callee inputs outputs landing) = AreBindings inputs × AreBindings outputs × (landing < count)

pub record IsValid (g : Graph) : Type 0 where
  pub entry : g.entry < length g.nodes
  pub nodes : All (IsNode (length g.nodes)) g.nodes

-- ---- the nodes of a set of graphs

abbrev pub Graphs : Type 0
Graphs = List Graph

abbrev pub node_at : Graphs → ℕ → ℕ → Option Node
node_at graphs g n = option_and_then (λ (graph : Graph). slice_get graph.nodes n) (slice_get graphs g)

-- how many nodes a graph of the set has
abbrev pub node_count : Graphs → ℕ → ℕ
node_count graphs g = option_map_or (λ (graph : Graph). length graph.nodes) (slice_get graphs g) 0

-- ---- graphs that are put together

abbrev pub empty : Graph
empty = record { nodes = []; entry = 0 }

-- more nodes, after those that are there
abbrev pub with_nodes : Graph → List Node → Graph
with_nodes g nodes = record g { nodes = g.nodes ++ nodes }

-- a call, and after it a landing node of its own
abbrev pub with_call : Graph → ℕ → List Binding → List Binding → Next → Graph
with_call g callee inputs outputs to =
    with_nodes g (Call callee inputs outputs (suc (length g.nodes)) ∷ Basic [] to ∷ [])
