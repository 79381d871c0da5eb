-- What a graph holds, as terms, sorts and nodes are added.
use Rattle.std.proofs.Common.{◌≡◌, ◌∙◌, ℕ, zero, suc, List, [], ◌∷◌, ◌++◌, length, map, Option, sym, ap, subst, arith}
use Rattle.std.specs.List.{All}
use Rattle.std.proofs.lemmas.List.{map-append}
use Rattle.std.proofs.lemmas.List.Elements.{All-append}
use Rattle.term_core_spec.specs.declared.Sort.{Sort}
use Rattle.term_core_spec.specs.Term.{Term}
use Rattle.term_bank.specs.Nodes.{Extends}
use Rattle.graph_core_spec.specs.Graph as spec
use Rattle.graph_core.specs.declared.graph.Graph.{Graph}
use Rattle.graph_core.specs.declared.shared.SharedNode.{SharedNode}
use Rattle.graph_core.specs.Shared.{shared_node_of, IsSharedNode}
use Rattle.term_sorts.specs.Sorts.{HasMoreSorts}
use Rattle.graph_core.specs.Sorts.{IsStored}
use Rattle.graph_core.specs.Graphs.{graph_of, Grows}
use Rattle.graph_core.proofs.Sorted.{nodes_below}
use Rattle.graph_core.proofs.Growing.{nodes_kept}

pub stored_sorts : (trees : List Term) (old new : List (Option Sort)) (nodes : List SharedNode) → HasMoreSorts trees old new → IsStored trees old nodes → IsStored trees new nodes
stored_sorts trees old new nodes more stored = record { sorted = more.sorts; inside = nodes_below (length old) (length new) more.longer nodes stored.inside }

one : {X : Type 0} (P : X → Type 0) (x : X) → P x → All P (x ∷ [])
one P x holds zero d less = holds
one P x holds (suc k) d less = absurd (omega arith)

pub stored_node : (trees : List Term) (sorts : List (Option Sort)) (nodes more : List SharedNode) (node : SharedNode) → more ≡ nodes ++ node ∷ [] → IsSharedNode (length sorts) node
    → IsStored trees sorts nodes → IsStored trees sorts more
stored_node trees sorts nodes more node is fits stored = record {
  sorted = stored.sorted;
  inside = subst (All (IsSharedNode (length sorts))) (sym is) (All-append (IsSharedNode (length sorts)) nodes (node ∷ []) stored.inside (one (IsSharedNode (length sorts)) node fits));
}

pub stored_within : (trees : List Term) (sorts : List (Option Sort)) (nodes : List SharedNode) → IsStored trees sorts nodes → All (IsSharedNode (length trees)) nodes
stored_within trees sorts nodes stored = nodes_below (length sorts) (length trees) stored.sorted.within nodes stored.inside

-- ---- the graph of trees

module _ (old : List Term) (nodes : List SharedNode) (entry : ℕ) (g : Graph) (view : record { trees = old; nodes = nodes; entry = entry } ≡ g) where
  -- it stays as the bank grows
  pub graph_kept : (new : List Term) (sorts : List (Option Sort)) → Extends old new → IsStored old sorts nodes → graph_of (record { trees = new; nodes = nodes; entry = entry }) ≡ graph_of g
  graph_kept new sorts grows stored =
      ap (λ (ns : List spec.Node). record { nodes = ns; entry = entry }) (nodes_kept old new grows nodes (stored_within old sorts nodes stored)) ∙ ap graph_of view

  pub graph_grows : (new : List Term) (sorts : List (Option Sort)) → Extends old new → IsStored old sorts nodes → Grows g (record { trees = new; nodes = nodes; entry = entry })
  graph_grows new sorts grows stored = record {
    extends = subst (λ (h : Graph). Extends h.trees new) view grows;
    graph = graph_kept new sorts grows stored;
  }

  -- with more nodes
  pub graph_added : (more some : List SharedNode) → more ≡ nodes ++ some → graph_of (record { trees = old; nodes = more; entry = entry }) ≡ spec.with_nodes (graph_of g) (map (shared_node_of g.trees) some)
  graph_added more some is =
      ap (λ (ns : List SharedNode). graph_of (record { trees = old; nodes = ns; entry = entry })) is
      ∙ ap (λ (ns : List spec.Node). record { nodes = ns; entry = entry }) (map-append (shared_node_of old) nodes some)
      ∙ ap (λ (h : Graph). spec.with_nodes (graph_of h) (map (shared_node_of h.trees) some)) view
