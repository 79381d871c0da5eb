-- Nodes that speak of variables of a kind alone, where renaming keeps the kind, still do with calls inlined.
use Rattle.std.proofs.Common.{◌≡◌, ℕ, Bool, true, false, if◌then◌else◌, sym, subst, List, [], ◌∷◌, map, filter, All}
use Rattle.std.proofs.lemmas.List.Elements.{All-append, All-filter, All-head, All-map, All-tail, All-weaker}
use Rattle.term_core_spec.specs.declared.Sort.{Sort}
use Rattle.term_core_spec.specs.declared.Sort.TheVariants as sort
use Rattle.term_core_spec.specs.declared.Variable.{Variable}
use Rattle.term_core_spec.specs.Same.{same_variable}
use Rattle.term_core_spec.specs.Substitution.{substituted}
use Rattle.term_core_spec.specs.Term.{Term, Occurs, open_term}
use Rattle.term_core_spec.proofs.Substitution.{renamed-is, occurs-substituted}
use Rattle.graph_core_spec.specs.declared.Next.{Next}
use Rattle.graph_core_spec.specs.Graph.{Binding, Node, Basic, Cond, Call}
use Rattle.graph_core_spec.specs.Run.{is_shared}
use Rattle.graph_inline_spec.specs.Naming.{inlined_variable, inlined_term, inlined_binding, with_inlined_term, with_inlined_variable}
use Rattle.graph_inline_spec.specs.Inlined.{unset_term, start_term, start_binding, start_bindings, inlined_node}
use Rattle.graph_inline_spec.specs.Inlining.{IsOwn}
use Rattle.sim_inline_laws.proofs.Kept.{IsKept}

module _ (K : Variable → Bool) where
  abbrev pub IsOfKind : Variable → Type 0
  IsOfKind v = K v ≡ true

  abbrev pub IsKindTerm : Term → Type 0
  IsKindTerm t = (v : Variable) → Occurs v t → K v ≡ true

  abbrev pub IsKindBinding : Binding → Type 0
  IsKindBinding b = (K b.variable ≡ true) × IsKindTerm b.term

  abbrev pub IsKindNode : Node → Type 0
  IsKindNode (Basic bindings to) = All IsKindBinding bindings
  IsKindNode (Cond test on_true on_false) = IsKindTerm test
  IsKindNode (Call callee inputs outputs landing) = All IsKindBinding inputs × All IsKindBinding outputs

  unset_kind : (v : Variable) (s : Sort) → K v ≡ true → IsKindTerm (unset_term v s)
  unfolding Occurs
  unset_kind v sort.Truth kind w o = absurd o
  unset_kind v (sort.Word width) kind w o = absurd o
  unset_kind v sort.Memory kind w o = subst IsOfKind (sym o) kind

  start_kind : (inputs : List Binding) (v : Variable) → K v ≡ true → All IsKindBinding inputs → IsKindTerm (start_term inputs v)
  unfolding start_term
  start_kind [] v kind all = unset_kind v v.sort kind
  start_kind (b ∷ inputs) v kind all =
      by (same_variable v b.variable) (All-head IsKindBinding b inputs all).1 (start_kind inputs v kind (All-tail IsKindBinding b inputs all))
    where
      by : (c : Bool) → IsKindTerm b.term → IsKindTerm (start_term inputs v) → IsKindTerm (if c then b.term else start_term inputs v)
      by true first later = first
      by false first later = later

  module _ (named : (instance : ℕ) (v : Variable) → K v ≡ true → K (inlined_variable instance v) ≡ true) where
    term_named : (instance : ℕ) (t : Term) → IsKindTerm t → IsKindTerm (inlined_term instance t)
    unfolding Occurs
    term_named instance t speaks w o =
        let at : Occurs w (substituted (λ v. open_term (inlined_variable instance v)) t) = subst (Occurs w) (renamed-is (inlined_variable instance) t) o in
        let from = occurs-substituted (λ v. open_term (inlined_variable instance v)) t w at in
        subst IsOfKind (sym from.2) (named instance from.0 (speaks from.0 from.1))

    kind_starts : (instance : ℕ) (own : List Variable) (callee : ℕ) (inputs outputs : List Binding) (landing : ℕ) (to : Next) → All IsOwn own → All IsOfKind own
        → IsKindNode (Call callee inputs outputs landing) → IsKindNode (Basic (start_bindings own instance inputs) to)
    kind_starts instance own callee inputs outputs landing to are kinds all =
        All-append IsKindBinding (filter (λ (b : Binding). is_shared b.variable) inputs) (map (start_binding instance inputs) own)
        (All-filter (λ (b : Binding). is_shared b.variable) IsKindBinding inputs all.0)
        (All-map IsKindBinding (start_binding instance inputs) own
        (All-weaker IsOfKind (λ (v : Variable). IsKindBinding (start_binding instance inputs v)) (λ v kind. (named instance v kind, start_kind inputs v kind all.0)) own kinds))

    kind_body : (instance first last : ℕ) (node : Node) → IsKindNode node → IsKindNode (inlined_node instance first last node)
    kind_body instance first last (Basic bindings to) all =
        All-map IsKindBinding (inlined_binding instance) bindings
        (All-weaker IsKindBinding (λ (b : Binding). IsKindBinding (inlined_binding instance b)) (λ b is. (named instance b.variable is.0, term_named instance b.term is.1)) bindings all)
    kind_body instance first last (Cond test on_true on_false) all = term_named instance test all
    kind_body instance first last (Call callee inputs outputs landing) all = (
      All-map IsKindBinding (with_inlined_term instance) inputs
          (All-weaker IsKindBinding (λ (b : Binding). IsKindBinding (with_inlined_term instance b)) (λ b is. (is.0, term_named instance b.term is.1)) inputs all.0),
      All-map IsKindBinding (with_inlined_variable instance) outputs
          (All-weaker IsKindBinding (λ (b : Binding). IsKindBinding (with_inlined_variable instance b)) (λ b is. (named instance b.variable is.0, is.1)) outputs all.1),
    )

    kind_ends : (instance callee : ℕ) (inputs outputs : List Binding) (landing : ℕ) (to : Next)
        → IsKindNode (Call callee inputs outputs landing) → IsKindNode (Basic (map (with_inlined_term instance) outputs) to)
    kind_ends instance callee inputs outputs landing to all =
        All-map IsKindBinding (with_inlined_term instance) outputs
        (All-weaker IsKindBinding (λ (b : Binding). IsKindBinding (with_inlined_term instance b)) (λ b is. (is.0, term_named instance b.term is.1)) outputs all.1)

    pub kind_kept : IsKept IsOfKind IsKindNode
    kind_kept = record { starts = kind_starts; body = kind_body; ends = kind_ends }
