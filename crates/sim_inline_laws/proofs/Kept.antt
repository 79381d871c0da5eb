-- What is true of the nodes of all functions that can be inlined is true of those of a graph with calls inlined, where
-- inlining one call keeps it.
use Rattle.std.proofs.Common.{◌≡◌, ◌∙◌, ℕ, ◌+◌, sym, subst, List, [], map, length, All, Some}
use Rattle.std.specs.Prelude.{slice_set}
use Rattle.std.proofs.lemmas.List.Elements.{All-nil, All-cons, All-append, All-set, All-map, All-weaker}
use Rattle.std.proofs.lemmas.Option.{same_Some}
use Rattle.term_core_spec.specs.declared.Variable.{Variable}
use Rattle.graph_core_spec.specs.declared.Next.{Next}
use Rattle.graph_core_spec.specs.declared.Next.TheVariants as next
use Rattle.graph_core_spec.specs.Graph.{Binding, Node, Basic, Call, Graph, Graphs}
use Rattle.graph_inline_spec.specs.Naming.{with_inlined_term}
use Rattle.graph_inline_spec.specs.Inlined.{start_bindings, inlined_node, inlined}
use Rattle.graph_inline_spec.specs.Inlining.{IsOwn, CanInline}
use Rattle.graph_inline_spec.proofs.Valid.{is_graph}
use Rattle.sim_rules_spec.proofs.Start.{all_at}
use Rattle.sim_inline_laws.specs.Unfolding.{Inlinable, Functions, AreInlinable, Unfolds, as_it_is, one_more}
use Rattle.sim_inline_laws.proofs.Unfolded.{unfolded_is, can}

-- the inlined functions' own variables are of a kind
pub record IsKept (Own : Variable → Type 0) (P : Node → Type 0) : Type 0 where
  pub starts : (instance : ℕ) (own : List Variable) (callee : ℕ) (inputs outputs : List Binding) (landing : ℕ) (to : Next) → All IsOwn own → All Own own
      → P (Call callee inputs outputs landing) → P (Basic (start_bindings own instance inputs) to)
  pub body : (instance first last : ℕ) (node : Node) → P node → P (inlined_node instance first last node)
  pub ends : (instance callee : ℕ) (inputs outputs : List Binding) (landing : ℕ) (to : Next) → P (Call callee inputs outputs landing)
      → P (Basic (map (with_inlined_term instance) outputs) to)

module _ (Own : Variable → Type 0) (P : Node → Type 0) (kept : IsKept Own P) where
  -- ---- one call

  module _ (caller : Graph) (n : ℕ) (callee : Graph) (own : List Variable) (instance : ℕ) (is : CanInline caller n callee own instance) where
    one_kept : (new : Graph) → inlined caller n callee own instance ≡ Some new → All Own own → All P caller.nodes → All P callee.nodes → All P new.nodes
    one_kept new e kinds in_caller in_callee =
        let here : P (Call is.number is.inputs is.outputs is.landing) = all_at P caller.nodes n (Call is.number is.inputs is.outputs is.landing) in_caller is.call in
        subst (λ (g : Graph). All P g.nodes) (same_Some _ new (sym (is_graph caller n callee own instance is) ∙ e))
        (All-append P
        (slice_set caller.nodes n (Basic (start_bindings own instance is.inputs) (next.At (length caller.nodes + callee.entry)))) _
        (All-set P caller.nodes n _ (kept.starts instance own is.number is.inputs is.outputs is.landing (next.At (length caller.nodes + callee.entry)) is.own_variables kinds here) in_caller)
        (All-append P
        (map (inlined_node instance (length caller.nodes) (length caller.nodes + length callee.nodes)) callee.nodes) _
        (All-map P (inlined_node instance (length caller.nodes) (length caller.nodes + length callee.nodes)) callee.nodes
        (All-weaker P (λ (node : Node). P (inlined_node instance (length caller.nodes) (length caller.nodes + length callee.nodes) node))
        (λ node p. kept.body instance (length caller.nodes) (length caller.nodes + length callee.nodes) node p) callee.nodes in_callee))
        (All-cons P (Basic (map (with_inlined_term instance) is.outputs) (next.At is.landing)) []
        (kept.ends instance is.number is.inputs is.outputs is.landing (next.At is.landing) here) (All-nil P))))

  -- ---- all calls

  module _ (graphs : Graphs) (functions : Functions) (set : AreInlinable graphs functions) (number : ℕ) (function : Inlinable) (named : functions number ≡ Some function)
      (kinds : (k : ℕ) (f : Inlinable) → functions k ≡ Some f → All Own f.own) (each : (k : ℕ) (f : Inlinable) → functions k ≡ Some f → All P f.graph.nodes) where
    pub all_kept : (free : ℕ) (g : Graph) → Unfolds functions function free g → All P g.nodes
    all_kept _ _ as_it_is = each number function named
    all_kept _ _ (one_more free instance g new n callee inputs outputs landing f before fits call is made) =
        let so_far = unfolded_is graphs functions set number function named free g before in
        one_kept g n f.graph f.own instance
        (can graphs functions set number function named free instance g new n callee inputs outputs landing f so_far fits call is made) new made (kinds callee f is)
        (all_kept free g before) (each callee f is)
