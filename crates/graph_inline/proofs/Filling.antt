-- The graph that is filled, and the tables as its bank grows.
use Rattle.std.proofs.Common.{◌≡◌, ◌∙◌, ℕ, ◌+◌, ◌<◌, List, [], ◌∷◌, ◌++◌, length, map, get_or, Option, Some, None, sym, ap, arith}
use Rattle.std.specs.Prelude.{slice_set}
use Rattle.std.specs.List.{All}
use Rattle.term_core_spec.specs.Term.{Term}
use Rattle.term_bank.specs.Nodes.{Extends}
use Rattle.graph_core_spec.specs.Graph as spec
use Rattle.graph_core_spec.specs.Graph.{with_nodes}
use Rattle.graph_core_spec.specs.declared.Next.TheVariants as next
use Rattle.graph_core.specs.declared.graph.Graph.{Graph}
use Rattle.graph_core.specs.Graphs.{graph_of}
use Rattle.graph_core.specs.declared.shared.SharedNode.{SharedNode}
use Rattle.graph_core.specs.declared.shared.SharedNode.TheVariants.{Basic, Cond, Call}
use Rattle.term_core_spec.specs.declared.Variable.{Variable}
use Rattle.graph_inline_spec.specs.Inlined.{start_bindings, inlined_node, body_start, body_end}
use Rattle.graph_inline_spec.specs.Naming.{with_inlined_term}
use Rattle.graph_inline.specs.declared.inlining.Passing.{Passing}
use Rattle.graph_inline.specs.Filled.{trees_of, filled}
use Rattle.graph_inline.specs.Moved.{NodeTaken, NodesTaken}
use Rattle.graph_inline.proofs.Taking.{taken_later}
use Rattle.graph_inline.proofs.Moving.{bindings_later}

-- the nodes of the caller, and those of the callee after them
pub filled_is : (g0 g1 g2 g3 : spec.Graph) (first second : List spec.Node) (entry : ℕ) → g0 ≡ spec.empty → g1 ≡ with_nodes g0 first → g2 ≡ with_nodes g1 second
    → g3 ≡ record g2 { entry = entry } → g3 ≡ record { nodes = first ++ second; entry = entry }
filled_is g0 g1 g2 g3 first second entry e0 e1 e2 e3 =
    e3
    ∙ ap (λ (g : spec.Graph). record { nodes = g.nodes; entry = entry })
    (e2 ∙ ap (λ (g : spec.Graph). with_nodes g second) (e1 ∙ ap (λ (g : spec.Graph). with_nodes g first) e0))

module _ (instance : Option ℕ) (from old new : List Term) (grows : Extends old new) (renamed kept : List ℕ) where
  node_later : (node : SharedNode) → NodeTaken instance from old renamed kept node → NodeTaken instance from new renamed kept node
  node_later (Basic bindings to) h = bindings_later instance from old new grows renamed bindings.items h
  node_later (Cond test on_true on_false) h = taken_later instance from old new renamed test grows h
  node_later (Call callee inputs outputs landing) h =
      (bindings_later instance from old new grows renamed inputs.items h.0, bindings_later None from old new grows kept outputs.items h.1)

  pub nodes_later : (nodes : List SharedNode) → NodesTaken instance from old renamed kept nodes → NodesTaken instance from new renamed kept nodes
  nodes_later nodes h = λ k d less. node_later (get_or nodes k d) (h k d less)

module _ (caller callee : Graph) (n : ℕ) (call : Passing) (own : List Variable) (instance : ℕ) where
  abbrev nodes_with : (start end : spec.Node) (first last entry : ℕ) → spec.Graph
  nodes_with start end first last entry = record {
    nodes = slice_set (graph_of caller).nodes n start ++ (map (inlined_node instance first last) (graph_of callee).nodes ++ end ∷ []);
    entry = entry;
  }

  abbrev starts : spec.Node
  starts = spec.Basic (start_bindings own instance (trees_of caller call.inputs.now)) (next.At (body_start (graph_of caller) + callee.entry))

  abbrev ends : spec.Node
  ends = spec.Basic (map (with_inlined_term instance) (trees_of caller call.outputs.now)) (next.At call.landing)

  pub filled_graph : (g0 g1 g2 g3 : spec.Graph) (start end : spec.Node) (first last entry : ℕ) → g0 ≡ spec.empty → g1 ≡ with_nodes g0 (slice_set (graph_of caller).nodes n start)
      → g2 ≡ with_nodes g1 (map (inlined_node instance first last) (graph_of callee).nodes ++ end ∷ []) → g3 ≡ record g2 { entry = entry } → start ≡ starts → end ≡ ends
      → first ≡ body_start (graph_of caller) → last ≡ body_end (graph_of caller) (graph_of callee) → entry ≡ caller.entry → g3 ≡ filled caller n call callee own instance
  filled_graph g0 g1 g2 g3 start end first last entry e0 e1 e2 e3 of_start of_end of_first of_last of_entry =
      filled_is g0 g1 g2 g3 (slice_set (graph_of caller).nodes n start) (map (inlined_node instance first last) (graph_of callee).nodes ++ end ∷ []) entry e0 e1 e2 e3
      ∙ ap (λ (x : spec.Node). nodes_with x end first last entry) of_start
      ∙ ap (λ (x : spec.Node). nodes_with starts x first last entry) of_end
      ∙ ap (λ (k : ℕ). nodes_with starts ends k last entry) of_first
      ∙ ap (λ (k : ℕ). nodes_with starts ends (body_start (graph_of caller)) k entry) of_last
      ∙ ap (λ (k : ℕ). nodes_with starts ends (body_start (graph_of caller)) (body_end (graph_of caller) (graph_of callee)) k) of_entry
