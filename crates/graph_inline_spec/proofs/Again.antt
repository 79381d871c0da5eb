-- A graph with a call inlined can have further calls inlined.
use Rattle.std.proofs.Common.{◌≡◌, ◌≢◌, ◌∙◌, ◌⊎◌, inl, inr, ℕ, ◌+◌, ◌<◌, Bool, true, false, if◌then◌else◌, sym, ap, subst, arith, List, [], ◌∷◌, ◌++◌, map, length, get_or, filter, All, Some, option_and_then}
use Rattle.std.specs.Prelude.{⊤, slice_get, slice_set}
use Rattle.std.proofs.lemmas.Bool.{cases_order}
use Rattle.std.proofs.lemmas.List.Elements.{All-head, All-tail, All-weaker, All-map, All-filter, All-append, All-set, All-cons, All-nil, filter_passes}
use Rattle.std.proofs.lemmas.Option.{same_Some, slice_get-get_or, slice_get_within, get_or_from_slice_get}
use Rattle.term_core_spec.specs.declared.Sort.{Sort}
use Rattle.term_core_spec.specs.declared.Sort.TheVariants as sort
use Rattle.term_core_spec.specs.declared.Variable.{Variable}
use Rattle.term_core_spec.specs.Sort.{is_memory}
use Rattle.term_core_spec.specs.Term.{Term, Occurs, open_term}
use Rattle.term_core_spec.specs.Same.{same_variable}
use Rattle.term_core_spec.specs.Substitution.{substituted}
use Rattle.term_core_spec.proofs.Substitution.{renamed-is, occurs-substituted}
use Rattle.graph_core_spec.specs.declared.Next.TheVariants as next
use Rattle.graph_core_spec.specs.Graph.{Binding, Node, Basic, Cond, Call, Graph, Graphs, node_at}
use Rattle.graph_core_spec.specs.Run.{is_shared}
use Rattle.graph_inline_spec.specs.Naming.{inlined_variable, inlined_term, inlined_binding, with_inlined_term, with_inlined_variable}
use Rattle.graph_inline_spec.specs.Inlined.{unset_term, start_term, start_binding, start_bindings, inlined_node, inlined}
use Rattle.graph_inline_spec.specs.Inlining.{TermSpeaksOf, SpeaksOf, IsElsewhere, IsOwn, CanInline, NeverCalls, Inlines}
use Rattle.graph_inline_spec.proofs.Naming.{either, name_own, name_is_shared}
use Rattle.graph_inline_spec.proofs.Bindings.{or_no}
use Rattle.graph_inline_spec.proofs.Valid.{is_graph}

-- what is true of a node that is there
of_node : (P : Node → Type 0) (nodes : List Node) (m : ℕ) (node : Node) → All P nodes → slice_get nodes m ≡ Some node → P node
of_node P nodes m node all e = subst P (get_or_from_slice_get nodes m node node e) (all m node (slice_get_within nodes m node e))

-- ---- variables of other instances

module _ (instance other : ℕ) (apart : other ≢ instance) where
  name_is_elsewhere : (v : Variable) → IsElsewhere other (inlined_variable instance v)
  name_is_elsewhere v = elim (either (is_shared v)) [
    | inl shared ↦ inl (name_is_shared instance v ∙ shared)
    | inr own ↦ inr (λ e. apart (sym e ∙ ap (λ (u : Variable). u.instance) (name_own instance v own)))
  ]

  term_is_elsewhere : (t : Term) → TermSpeaksOf (IsElsewhere other) (inlined_term instance t)
  unfolding Occurs
  term_is_elsewhere t w o =
      let at : Occurs w (substituted (λ v. open_term (inlined_variable instance v)) t) = subst (Occurs w) (renamed-is (inlined_variable instance) t) o in
      let from = occurs-substituted (λ v. open_term (inlined_variable instance v)) t w at in
      subst (IsElsewhere other) (sym from.2) (name_is_elsewhere from.0)

  unset_speaks : (v : Variable) (s : Sort) → is_memory s ≡ false → TermSpeaksOf (IsElsewhere other) (unset_term v s)
  unfolding Occurs
  unset_speaks v sort.Truth own w o = absurd o
  unset_speaks v (sort.Word width) own w o = absurd o
  unset_speaks v sort.Memory own w o = let bad : true ≡ false = own in cc

  start_speaks : (inputs : List Binding) (v : Variable) → is_shared v ≡ false → All (λ b. TermSpeaksOf (IsElsewhere other) b.term) inputs
      → TermSpeaksOf (IsElsewhere other) (start_term inputs v)
  unfolding start_term
  start_speaks [] v own speak = unset_speaks v v.sort (or_no (is_memory v.sort) _ own)
  start_speaks (b ∷ inputs) v own speak =
      by (same_variable v b.variable) (All-head (λ b. TermSpeaksOf (IsElsewhere other) b.term) b inputs speak)
      (start_speaks inputs v own (All-tail (λ b. TermSpeaksOf (IsElsewhere other) b.term) b inputs speak))
    where
      by : (c : Bool) → TermSpeaksOf (IsElsewhere other) b.term → TermSpeaksOf (IsElsewhere other) (start_term inputs v)
          → TermSpeaksOf (IsElsewhere other) (if c then b.term else start_term inputs v)
      by true first later = first
      by false first later = later

  abbrev Speaks : Binding → Type 0
  Speaks b = IsElsewhere other b.variable × TermSpeaksOf (IsElsewhere other) b.term

  shared_speak : (inputs : List Binding) → All (λ b. TermSpeaksOf (IsElsewhere other) b.term) inputs → All Speaks (filter (λ (b : Binding). is_shared b.variable) inputs)
  shared_speak inputs speak =
      let shared = filter_passes (λ (b : Binding). is_shared b.variable) inputs in
      let terms = All-filter (λ (b : Binding). is_shared b.variable) (λ b. TermSpeaksOf (IsElsewhere other) b.term) inputs speak in
      λ k d less. (inl (shared k d less), terms k d less)

  starts_speak : (own : List Variable) → All IsOwn own → (inputs : List Binding) → All (λ b. TermSpeaksOf (IsElsewhere other) b.term) inputs
      → All Speaks (start_bindings own instance inputs)
  starts_speak own are_own inputs speak =
      All-append Speaks (filter (λ (b : Binding). is_shared b.variable) inputs) (map (start_binding instance inputs) own) (shared_speak inputs speak)
      (All-map Speaks (start_binding instance inputs) own
      (All-weaker IsOwn (λ v. Speaks (start_binding instance inputs v)) (λ v is. (name_is_elsewhere v, start_speaks inputs v is.0 speak)) own are_own))

  body_speaks : (first last : ℕ) (node : Node) → SpeaksOf (IsElsewhere other) (inlined_node instance first last node)
  body_speaks first last (Basic bindings to) =
      All-map Speaks (inlined_binding instance) bindings (λ k d less. (name_is_elsewhere (get_or bindings k d).variable, term_is_elsewhere _))
  body_speaks first last (Cond test on_true on_false) = term_is_elsewhere test
  body_speaks first last (Call callee inputs outputs landing) = (
    All-map (λ b. TermSpeaksOf (IsElsewhere other) b.term) (with_inlined_term instance) inputs (λ k d less. term_is_elsewhere _),
    All-map (λ b. IsElsewhere other b.variable) (with_inlined_variable instance) outputs (λ k d less. name_is_elsewhere (get_or outputs k d).variable),
  )

pub stays_fresh : (caller : Graph) (n : ℕ) (callee : Graph) (own : List Variable) (instance : ℕ) → CanInline caller n callee own instance → (result : Graph)
    → inlined caller n callee own instance ≡ Some result → (other : ℕ) → other ≢ instance → All (SpeaksOf (IsElsewhere other)) caller.nodes
    → All (SpeaksOf (IsElsewhere other)) result.nodes
stays_fresh caller n callee own instance can result e other apart fresh =
    subst (λ (g : Graph). All (SpeaksOf (IsElsewhere other)) g.nodes) (same_Some _ result (sym (is_graph caller n callee own instance can) ∙ e)) nodes
  where
    call : SpeaksOf (IsElsewhere other) (Call can.number can.inputs can.outputs can.landing)
    call = of_node (SpeaksOf (IsElsewhere other)) caller.nodes n _ fresh can.call

    nodes : All (SpeaksOf (IsElsewhere other))
        (slice_set caller.nodes n (Basic (start_bindings own instance can.inputs) (next.At (length caller.nodes + callee.entry)))
        ++ (map (inlined_node instance (length caller.nodes) (length caller.nodes + length callee.nodes)) callee.nodes
        ++ Basic (map (with_inlined_term instance) can.outputs) (next.At can.landing) ∷ []))
    nodes =
        All-append (SpeaksOf (IsElsewhere other)) (slice_set caller.nodes n (Basic (start_bindings own instance can.inputs) (next.At (length caller.nodes + callee.entry)))) _
        (All-set (SpeaksOf (IsElsewhere other)) caller.nodes n _ (starts_speak instance other apart own can.own_variables can.inputs call.0) fresh)
        (All-append (SpeaksOf (IsElsewhere other)) (map (inlined_node instance (length caller.nodes) (length caller.nodes + length callee.nodes)) callee.nodes) _
        (All-map (SpeaksOf (IsElsewhere other)) (inlined_node instance (length caller.nodes) (length caller.nodes + length callee.nodes)) callee.nodes
        (λ k d less. body_speaks instance other apart (length caller.nodes) (length caller.nodes + length callee.nodes) _))
        (All-cons (SpeaksOf (IsElsewhere other)) _ []
        (All-map (λ b. IsElsewhere other b.variable × TermSpeaksOf (IsElsewhere other) b.term) (with_inlined_term instance) can.outputs
        (All-weaker (λ b. IsElsewhere other b.variable) (λ b. IsElsewhere other b.variable × TermSpeaksOf (IsElsewhere other) (inlined_term instance b.term))
        (λ b is. (is, term_is_elsewhere instance other apart b.term)) can.outputs call.1))
        (All-nil (SpeaksOf (IsElsewhere other)))))

-- ---- who is called

abbrev CallsOther : ℕ → Node → Type 0
CallsOther g (Basic bindings to) = ⊤
CallsOther g (Cond test on_true on_false) = ⊤
CallsOther g (Call d inputs outputs landing) = d ≢ g

calls_body : (g instance first last : ℕ) (node : Node) → CallsOther g node → CallsOther g (inlined_node instance first last node)
calls_body g instance first last (Basic bindings to) is = tt
calls_body g instance first last (Cond test on_true on_false) is = tt
calls_body g instance first last (Call d inputs outputs landing) is = is

in_graph : (graphs : Graphs) (g : ℕ) (graph : Graph) (m : ℕ) → slice_get graphs g ≡ Some graph → node_at graphs g m ≡ slice_get graph.nodes m
in_graph graphs g graph m e = ap (option_and_then (λ (x : Graph). slice_get x.nodes m)) e

calls_other : (graphs : Graphs) (g h : ℕ) (graph : Graph) → NeverCalls graphs g → slice_get graphs h ≡ Some graph → All (CallsOther g) graph.nodes
calls_other graphs g h graph never there = λ k d less. by k (get_or graph.nodes k d) (in_graph graphs h graph k there ∙ slice_get-get_or graph.nodes k d less)
  where
    by : (k : ℕ) (node : Node) → node_at graphs h k ≡ Some node → CallsOther g node
    by k (Basic bindings to) e = tt
    by k (Cond test on_true on_false) e = tt
    by k (Call d inputs outputs landing) e = never h k d inputs outputs landing e

module _ (graphs : Graphs) (g n : ℕ) (own : List Variable) (instance : ℕ) (new : Graphs) (is : Inlines graphs g n own instance new) where
  new_graph : (result : Graph) × (slice_get new g ≡ Some result) × All (CallsOther g) result.nodes
  new_graph = (
    record { nodes = _; entry = is.caller.entry },
    is.changed ∙ is_graph is.caller n is.callee own instance is.can,
    All-append (CallsOther g) (slice_set is.caller.nodes n (Basic (start_bindings own instance is.can.inputs) (next.At (length is.caller.nodes + is.callee.entry)))) _
        (All-set (CallsOther g) is.caller.nodes n _ tt (calls_other graphs g g is.caller is.never_called is.here))
        (All-append (CallsOther g) (map (inlined_node instance (length is.caller.nodes) (length is.caller.nodes + length is.callee.nodes)) is.callee.nodes) _
        (All-map (CallsOther g) (inlined_node instance (length is.caller.nodes) (length is.caller.nodes + length is.callee.nodes)) is.callee.nodes
        (All-weaker (CallsOther g) (λ node. CallsOther g (inlined_node instance (length is.caller.nodes) (length is.caller.nodes + length is.callee.nodes) node))
        (λ node c. calls_body g instance (length is.caller.nodes) (length is.caller.nodes + length is.callee.nodes) node c) is.callee.nodes
        (calls_other graphs g is.can.number is.callee is.never_called is.there)))
        (All-cons (CallsOther g) (Basic (map (with_inlined_term instance) is.can.outputs) (next.At is.can.landing)) [] tt (All-nil (CallsOther g)))),
  )

  pub stays_uncalled : NeverCalls new g
  stays_uncalled h m d inputs outputs landing e = elim (cases_order h g) [
    | inl here ↦
        let result = new_graph in
        of_node (CallsOther g) result.0.nodes m _ result.2 (sym (in_graph new g result.0 m result.1) ∙ ap (λ (k : ℕ). node_at new k m) (sym here) ∙ e)
    | inr other ↦ is.never_called h m d inputs outputs landing (sym (ap (option_and_then (λ (x : Graph). slice_get x.nodes m)) (is.others h (differs other))) ∙ e)
  ]
    where
      differs : (h < g) ⊎ (g < h) → h ≢ g
      differs (inl before) same = omega (arith, before, same)
      differs (inr behind) same = omega (arith, behind, same)
