-- What callers and callees share, and no node of any function binds, no node of a graph with calls inlined binds.
use Rattle.std.proofs.Common.{◌≡◌, ◌≢◌, ◌∙◌, ℕ, true, sym, ap, List, map, filter, All, Some, inl, inr}
use Rattle.std.proofs.lemmas.List.Elements.{All-append, All-filter, All-map, All-weaker}
use Rattle.term_core_spec.specs.declared.Variable.{Variable}
use Rattle.graph_core_spec.specs.declared.Next.{Next}
use Rattle.graph_core_spec.specs.Graph.{Binding, Node, Basic, Cond, Call, Graph, Graphs}
use Rattle.graph_core_spec.specs.Run.{is_shared}
use Rattle.graph_inline_spec.specs.Naming.{inlined_variable, inlined_binding, with_inlined_term, with_inlined_variable}
use Rattle.graph_inline_spec.specs.Inlined.{start_binding, start_bindings, inlined_node}
use Rattle.graph_inline_spec.specs.Inlining.{IsOwn}
use Rattle.graph_inline_spec.proofs.Naming.{either, clash, name_shared, name_is_shared}
use Rattle.sim_rules_spec.proofs.Truths.{all_left, all_right}
use Rattle.sim_rules_spec.proofs.Start.{all_at}
use Rattle.sim_inline_laws.specs.Unfolding.{Inlinable, Functions, AreInlinable, Unfolds}
use Rattle.sim_inline_laws.specs.Frames.{SparesIt, IsNeverBound}
use Rattle.sim_inline_laws.proofs.Kept.{IsKept, all_kept}

module _ (u : Variable) (shared : is_shared u ≡ true) where
  abbrev Other : Binding → Type 0
  Other b = b.variable ≢ u

  -- an inlined function's own variable is not shared
  name_other : (instance : ℕ) (w : Variable) → w ≢ u → inlined_variable instance w ≢ u
  name_other instance w other e = elim (either (is_shared w)) [
    | inl is ↦ other (sym (name_shared instance w is) ∙ e)
    | inr own ↦ clash (ap is_shared e ∙ shared) (name_is_shared instance w ∙ own)
  ]

  own_other : (w : Variable) → IsOwn w → w ≢ u
  own_other w own e = clash (ap is_shared e ∙ shared) own.0

  starts_spare : (instance : ℕ) (own : List Variable) (callee : ℕ) (inputs outputs : List Binding) (landing : ℕ) (to : Next) → All IsOwn own → All IsOwn own
      → SparesIt u (Call callee inputs outputs landing) → SparesIt u (Basic (start_bindings own instance inputs) to)
  starts_spare instance own callee inputs outputs landing to are kinds all =
      All-append Other (filter (λ (b : Binding). is_shared b.variable) inputs) (map (start_binding instance inputs) own)
      (All-filter (λ (b : Binding). is_shared b.variable) Other inputs (all_left Other inputs outputs all))
      (All-map Other (start_binding instance inputs) own
      (All-weaker IsOwn (λ (v : Variable). Other (start_binding instance inputs v)) (λ v is. name_other instance v (own_other v is)) own are))

  body_spares : (instance first last : ℕ) (node : Node) → SparesIt u node → SparesIt u (inlined_node instance first last node)
  body_spares instance first last (Basic bindings to) all =
      All-map Other (inlined_binding instance) bindings
      (All-weaker Other (λ (b : Binding). Other (inlined_binding instance b)) (λ b is. name_other instance b.variable is) bindings all)
  body_spares instance first last (Cond test on_true on_false) all = all
  body_spares instance first last (Call callee inputs outputs landing) all =
      All-append Other (map (with_inlined_term instance) inputs) (map (with_inlined_variable instance) outputs)
      (All-map Other (with_inlined_term instance) inputs (all_left Other inputs outputs all))
      (All-map Other (with_inlined_variable instance) outputs
      (All-weaker Other (λ (b : Binding). Other (with_inlined_variable instance b)) (λ b is. name_other instance b.variable is) outputs (all_right Other inputs outputs all)))

  ends_spare : (instance callee : ℕ) (inputs outputs : List Binding) (landing : ℕ) (to : Next) → SparesIt u (Call callee inputs outputs landing)
      → SparesIt u (Basic (map (with_inlined_term instance) outputs) to)
  ends_spare instance callee inputs outputs landing to all =
      All-map Other (with_inlined_term instance) outputs (all_right Other inputs outputs all)

  spared : IsKept IsOwn (SparesIt u)
  spared = record { starts = starts_spare; body = body_spares; ends = ends_spare }

-- no node of the graph with calls inlined
pub own_spares : (graphs : Graphs) (functions : Functions) (set : AreInlinable graphs functions) (number : ℕ) (function : Inlinable) (named : functions number ≡ Some function)
    (u : Variable) → IsNeverBound graphs u → (free : ℕ) (g : Graph) → Unfolds functions function free g → All (SparesIt u) g.nodes
own_spares graphs functions set number function named u never =
    all_kept IsOwn (SparesIt u) (spared u never.shared) graphs functions set number function named set.own
    (λ k f is. all_at (λ (g : Graph). All (SparesIt u) g.nodes) graphs k f.graph never.unbound (set.there k f is))
