-- The edges into a visit, from what is known of their sources.
use Rattle.std.proofs.Common.{◌≡◌, ◌∙◌, ℕ, ◌<◌, List, [], ◌∷◌, length, get_or, map, Option, Some, refl, sym, ap, ap₂, subst}
use Rattle.std.specs.Prelude.{slice_get, option_and_then}
use Rattle.std.specs.Option.{option_map_or}
use Rattle.std.specs.List.{All}
use Rattle.std.proofs.lemmas.List.Elements.{All-head, All-tail, All-map}
use Rattle.std.proofs.lemmas.Option.{slice_get-get_or, slice_get_within}
use Rattle.term_core_spec.specs.declared.Variable.{Variable}
use Rattle.term_core_spec.specs.Term.{Term}
use Rattle.term_core_spec.specs.Substitution.{State}
use Rattle.term_bank.specs.Nodes.{tree_at, Holds}
use Rattle.graph_core_spec.specs.Graph.{Graph}
use Rattle.visit_walk_spec.specs.declared.Incoming.{Incoming}
use Rattle.path_cond_spec.specs.Junctions.{Junction}
use Rattle.path_cond_spec.specs.Conditions.{Conditional, united, conditional_at, along}
use Rattle.path_cond.specs.declared.ids.Ids.{Ids}
use Rattle.path_cond.specs.declared.leave.Leaving.{Leaving}
use Rattle.path_cond.specs.declared.known.Known.{Known}
use Rattle.path_cond.specs.Ids.{id_at}
use Rattle.path_cond.specs.Branches.{id_by}
use Rattle.path_cond.specs.Merged.{AreIds}
use Rattle.path_cond.specs.Known.{AreConditionals}
use Rattle.path_cond.specs.States.{IsFull}
use Rattle.path_cond.specs.Table.{edge_id, AreArriving, IsEdge, AreEdges, IsKnownAt, AreKnown}
use Rattle.path_cond.specs.United.{id_of, ids_of, AreFull}
use Rattle.path_cond.proofs.Banks.{tree_is}
use Rattle.path_cond.proofs.Current.{full_state}
use Rattle.path_cond.proofs.Uniting.{found_first}

abbrev pub source_of : Incoming → ℕ
source_of e = e.source

module _ (terms count : ℕ) (known : Known) (edges : List Incoming) (h : AreArriving terms count known edges) where
  pub arriving_within : All (λ (e : Incoming). e.source < length known.leaving.items) edges
  arriving_within = λ k d less. (h k d less).within

  pub arriving_ids : AreIds terms (map (edge_id known) edges)
  arriving_ids = All-map (λ (i : ℕ). i < terms) (edge_id known) edges (λ k d less. (h k d less).condition)

  pub arriving_full : AreFull terms count known.after.items (map source_of edges)
  arriving_full =
      All-map (λ (s : ℕ). (ids : Ids) × (slice_get known.after.items s ≡ Some ids) × IsFull terms count (id_at ids)) source_of edges
      (λ k d less. let a = h k d less in (a.after, a.after_is, a.full))

module _ (trees : List Term) (variables : List Variable) (start : State) (known : Known) (f : Incoming → Conditional) where
  abbrev Is : Incoming → Type 0
  Is e = IsEdge trees variables start known e (f e)

  conditions_of : (edges : List Incoming) → AreEdges trees variables start known f edges → map (tree_at trees) (map (edge_id known) edges) ≡ map (λ (c : Conditional). c.condition) (map f edges)
  conditions_of [] are = refl
  conditions_of (e ∷ edges) are =
      ap₂ (λ (t : Term) (ts : List Term). t ∷ ts) (tree_is trees (edge_id known e) (f e).condition (All-head Is e edges are).condition) (conditions_of edges (All-tail Is e edges are))

  states_of : (k : ℕ) (v : Variable) → slice_get variables k ≡ Some v → (edges : List Incoming) → AreEdges trees variables start known f edges
      → map (tree_at trees) (ids_of known.after.items (map source_of edges) k) ≡ map (λ (c : Conditional). c.state v) (map f edges)
  states_of k v there [] are = refl
  states_of k v there (e ∷ edges) are =
      let first = All-head Is e edges are in
      let at = first.state.bound k v there in
      let id : id_of known.after.items k e.source ≡ Some at.0 = ap (λ (o : Option Ids). option_and_then (λ (ids : Ids). id_at ids k) o) first.after_is ∙ at.1 in
      ap (map (tree_at trees)) (found_first 0 known.after.items k e.source at.0 (map source_of edges) id)
      ∙ ap₂ (λ (t : Term) (ts : List Term). t ∷ ts) (tree_is trees at.0 ((f e).state v) at.2) (states_of k v there edges (All-tail Is e edges are))

  pub edges_conditionals : (edges : List Incoming) → AreEdges trees variables start known f edges
      → AreConditionals trees variables start (map (edge_id known) edges) known.after.items (map source_of edges) (map f edges)
  edges_conditionals edges are = record {
    conditions_are = conditions_of edges are;
    states_are = λ k v there. states_of k v there edges are;
    others = λ v out. All-map (λ (c : Conditional). c.state v ≡ start v) f edges (λ k d less. (are k d less).state.others v out);
  }

module _ (trees : List Term) (variables : List Variable) (start : State) (g : Graph) (js : List Junction) (known : Known) (cs : List Conditional) (are : AreKnown trees variables start g js known cs) where
  source_at : (s : ℕ) → s < length cs → IsKnownAt trees variables start g js known s (conditional_at start cs s)
  source_at s less = are.each s (conditional_at start cs s) (slice_get-get_or cs s (united start []) less)

  condition_at : (e : Incoming) → e.source < length cs → Holds trees (edge_id known e) (along g js start cs e).condition
  condition_at e less =
      let at = source_at e.source less in
      let id : edge_id known e ≡ id_by at.leaving e.branch = ap (λ (o : Option Leaving). option_map_or (λ (l : Leaving). id_by l e.branch) o 0) at.leaving_is in
      subst (λ (i : ℕ). Holds trees i (along g js start cs e).condition) (sym id) (at.left.branch e.branch)

  pub known_edges : (edges : List Incoming) → All (λ (e : Incoming). e.source < length cs) edges → AreEdges trees variables start known (along g js start cs) edges
  known_edges edges earlier = λ k d less.
      let e : Incoming = get_or edges k d in
      let at = source_at e.source (earlier k d less) in
      record { condition = condition_at e (earlier k d less); after = at.after; after_is = at.after_is; state = at.left.state }

  pub known_arriving : (edges : List Incoming) → All (λ (e : Incoming). e.source < length cs) edges → AreArriving (length trees) (length variables) known edges
  known_arriving edges earlier = λ k d less.
      let e : Incoming = get_or edges k d in
      let at = source_at e.source (earlier k d less) in
      record {
        within = slice_get_within known.leaving.items e.source at.leaving at.leaving_is;
        condition = slice_get_within trees (edge_id known e) (along g js start cs e).condition (condition_at e (earlier k d less));
        after = at.after;
        after_is = at.after_is;
        full = full_state variables trees start (id_at at.after) (along g js start cs e).state at.left.state;
      }
