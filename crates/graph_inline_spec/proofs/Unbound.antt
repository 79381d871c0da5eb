-- A function's own variable of another instance that no node of the caller binds is bound by no node of the inlined graph.
use Rattle.std.proofs.Common.{◌≡◌, ◌≢◌, ◌∙◌, inr, ℕ, ◌+◌, true, false, sym, ap, subst, List, [], ◌∷◌, ◌++◌, map, length, get_or, filter, All, Some}
use Rattle.std.specs.Prelude.{slice_get, slice_set}
use Rattle.std.proofs.lemmas.List.Elements.{All-weaker, All-map, All-append, All-set, All-cons, All-nil, filter_passes}
use Rattle.std.proofs.lemmas.Option.{same_Some, slice_get_within, get_or_from_slice_get}
use Rattle.term_core_spec.specs.declared.Variable.{Variable}
use Rattle.graph_core_spec.specs.declared.Next.TheVariants as next
use Rattle.graph_core_spec.specs.Graph.{Binding, Node, Basic, Cond, Call, Graph}
use Rattle.graph_core_spec.specs.Run.{is_shared}
use Rattle.graph_core_spec.specs.Variables.{own_bindings}
use Rattle.graph_inline_spec.specs.Naming.{inlined_variable, inlined_binding, with_inlined_term, with_inlined_variable}
use Rattle.graph_inline_spec.specs.Inlined.{start_binding, start_bindings, inlined_node, inlined}
use Rattle.graph_inline_spec.specs.Inlining.{CanInline}
use Rattle.graph_inline_spec.specs.Kept.{NeverBindsIt}
use Rattle.graph_inline_spec.proofs.Naming.{clash, name_elsewhere}
use Rattle.graph_inline_spec.proofs.Valid.{is_graph}

-- another variable, and a node that binds none but others
abbrev Other : Variable → Binding → Type 0
Other v b = b.variable ≢ v

abbrev Leaves : Variable → Node → Type 0
Leaves v node = All (Other v) (own_bindings node)

module _ (instance : ℕ) (v : Variable) (apart : is_shared v ≡ false) (other : v.instance ≢ instance) where
  -- what belongs to the instance is another variable
  name_other : (w : Variable) → inlined_variable instance w ≢ v
  name_other w e = name_elsewhere instance v w (inr other) apart (sym e)

  shared_other : (b : Binding) → is_shared b.variable ≡ true → Other v b
  shared_other b shared e = clash shared (ap is_shared e ∙ apart)

  starts_leave : (own : List Variable) (inputs : List Binding) → All (Other v) (start_bindings own instance inputs)
  starts_leave own inputs =
      All-append (Other v) (filter (λ (b : Binding). is_shared b.variable) inputs) (map (start_binding instance inputs) own)
      (All-weaker (λ (b : Binding). is_shared b.variable ≡ true) (Other v) shared_other (filter (λ (b : Binding). is_shared b.variable) inputs) (filter_passes (λ (b : Binding). is_shared b.variable) inputs))
      (All-map (Other v) (start_binding instance inputs) own (λ k d less. name_other (get_or own k d)))

  body_leaves : (first last : ℕ) (node : Node) → Leaves v (inlined_node instance first last node)
  body_leaves first last (Basic bindings to) = All-map (Other v) (inlined_binding instance) bindings (λ k d less. name_other (get_or bindings k d).variable)
  body_leaves first last (Cond test on_true on_false) = All-nil (Other v)
  body_leaves first last (Call callee inputs outputs landing) = All-map (Other v) (with_inlined_variable instance) outputs (λ k d less. name_other (get_or outputs k d).variable)

of_node : (P : Node → Type 0) (nodes : List Node) (m : ℕ) (node : Node) → All P nodes → slice_get nodes m ≡ Some node → P node
of_node P nodes m node all e = subst P (get_or_from_slice_get nodes m node node e) (all m node (slice_get_within nodes m node e))

pub stays_unbound : (caller : Graph) (n : ℕ) (callee : Graph) (own : List Variable) (instance : ℕ) → CanInline caller n callee own instance → (result : Graph)
    → inlined caller n callee own instance ≡ Some result → (v : Variable) → is_shared v ≡ false → v.instance ≢ instance → NeverBindsIt caller v → NeverBindsIt result v
stays_unbound caller n callee own instance can result e v apart other never =
    subst (λ (g : Graph). NeverBindsIt g v) (same_Some _ result (sym (is_graph caller n callee own instance can) ∙ e)) nodes
  where
    outputs : All (Other v) can.outputs
    outputs = of_node (Leaves v) caller.nodes n _ never can.call

    nodes : All (Leaves v)
        (slice_set caller.nodes n (Basic (start_bindings own instance can.inputs) (next.At (length caller.nodes + callee.entry)))
        ++ (map (inlined_node instance (length caller.nodes) (length caller.nodes + length callee.nodes)) callee.nodes
        ++ Basic (map (with_inlined_term instance) can.outputs) (next.At can.landing) ∷ []))
    nodes =
        All-append (Leaves v)
        (slice_set caller.nodes n (Basic (start_bindings own instance can.inputs) (next.At (length caller.nodes + callee.entry)))) _
        (All-set (Leaves v) caller.nodes n _ (starts_leave instance v apart other own can.inputs) never)
        (All-append (Leaves v)
        (map (inlined_node instance (length caller.nodes) (length caller.nodes + length callee.nodes)) callee.nodes) _
        (All-map (Leaves v) (inlined_node instance (length caller.nodes) (length caller.nodes + length callee.nodes)) callee.nodes
        (λ k d less. body_leaves instance v apart other (length caller.nodes) (length caller.nodes + length callee.nodes) _))
        (All-cons (Leaves v) _ []
        (All-map (Other v) (with_inlined_term instance) can.outputs outputs)
        (All-nil (Leaves v))))
