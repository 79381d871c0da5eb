-- The call that a node of a set of graphs is.
use Rattle.std.proofs.Common.{◌≡◌, ◌∙◌, ℕ, ◌<◌, true, List, [], ◌∷◌, length, map, get_or, Option, Some, None, refl, sym, ap, arith}
use Rattle.std.proofs.lemmas.Bool.{false≢true}
use Rattle.std.specs.Prelude.{slice_get, is_some, option_and_then}
use Rattle.std.specs.Option.{option_map}
use Rattle.std.proofs.lemmas.List.{length-map}
use Rattle.std.proofs.lemmas.Option.{same_Some, slice_get-map, slice_get-get_or, slice_get_within}
use Rattle.graph_core.specs.declared.graph.Graph.{Graph}
use Rattle.graph_core.specs.declared.shared.SharedNode.{SharedNode}
use Rattle.graph_core.specs.Shared.{shared_node_of}
use Rattle.graph_core.specs.Graphs.{graph_of, graphs_of}
use Rattle.graph_core_spec.specs.Graph as spec
use Rattle.graph_core_spec.specs.Graph.{Binding, Node, Call, node_at}
use Rattle.proof_tree_spec.specs.Frames.{Side}
use Rattle.sim_rules_spec.specs.Crossing.{IsCallAt}
use Rattle.sim_calls.specs.declared.sites.CallSite.{CallSite}
use Rattle.sim_calls.specs.Sites.{IsSiteIn, IsFound, inputs_of, outputs_of}

there_is : {X : Type 0} (xs : List X) (i : ℕ) → i < length xs → (x : X) × (slice_get xs i ≡ Some x)
there_is [] i less = absurd (omega arith)
there_is (x ∷ xs) i less = (get_or (x ∷ xs) i x, slice_get-get_or (x ∷ xs) i x less)

module _ (graphs : List Graph) (outermost node : ℕ) where
  abbrev pub side : Side
  side = record { graphs = graphs_of graphs; outermost = outermost }

  module _ (g : Graph) (there : slice_get graphs outermost ≡ Some g) where
    nodes_are : (i : ℕ) → node_at (graphs_of graphs) outermost i ≡ slice_get (map (shared_node_of g.trees) g.nodes) i
    nodes_are i =
        ap (option_and_then (λ (h : spec.Graph). slice_get h.nodes i)) (slice_get-map graph_of graphs outermost ∙ ap (option_map graph_of) there)

    module _ (n : SharedNode) (here : slice_get g.nodes node ≡ Some n) where
      node_is : node_at (graphs_of graphs) outermost node ≡ Some (shared_node_of g.trees n)
      node_is = nodes_are node ∙ slice_get-map (shared_node_of g.trees) g.nodes node ∙ ap (option_map (shared_node_of g.trees)) here

      lands_there : (i : ℕ) → i < length g.nodes → is_some (node_at (graphs_of graphs) outermost i) ≡ true
      lands_there i less =
          let long = length-map g.nodes (shared_node_of g.trees) in
          let at = there_is (map (shared_node_of g.trees) g.nodes) i (omega (arith, long, less)) in
          ap is_some (nodes_are i ∙ at.1)

      lands_within : (i : ℕ) → is_some (node_at (graphs_of graphs) outermost i) ≡ true → i < length g.nodes
      lands_within i some =
          let long = length-map g.nodes (shared_node_of g.trees) in
          let within = some_within (map (shared_node_of g.trees) g.nodes) i (ap is_some (sym (nodes_are i)) ∙ some) in
          omega (arith, long, within)
        where
          some_within : (xs : List Node) (i : ℕ) → is_some (slice_get xs i) ≡ true → i < length xs
          some_within xs i some = by (slice_get xs i) refl some
            where
              by : (o : Option Node) → slice_get xs i ≡ o → is_some o ≡ true → i < length xs
              by None e bad = absurd (false≢true bad)
              by (Some x) e known = slice_get_within xs i x e

      pub found_is : (o : Option CallSite) → IsSiteIn g (length graphs) n o → IsFound side node o
      found_is (Some site) is =
          let long = length-map graphs graph_of in
          let at = there_is (graphs_of graphs) site.callee (let less = is.there in omega (arith, long, less)) in
          record {
            call = record {
              callee = site.callee;
              graph = at.0;
              here = node_is ∙ ap Some is.node_is;
              there = at.1;
              lands = lands_there site.landing is.lands;
            };
            callee = refl;
            within = is.within;
          }
      found_is None is = λ inputs outputs landing call.
          let long = length-map graphs graph_of in
          let less = slice_get_within (graphs_of graphs) call.callee call.graph call.there in
          is call.callee inputs outputs landing (same_Some (shared_node_of g.trees n) (Call call.callee inputs outputs landing) (sym node_is ∙ call.here))
          (omega (arith, long, less)) (lands_within landing call.lands)
