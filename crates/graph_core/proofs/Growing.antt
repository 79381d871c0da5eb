-- The nodes of a graph as its bank grows.
use Rattle.std.proofs.Common.{◌≡◌, ◌∙◌, ℕ, ◌<◌, zero, suc, List, [], ◌∷◌, ◌++◌, length, map, refl, ap, ap₂, arith}
use Rattle.std.specs.List.{All}
use Rattle.std.proofs.lemmas.List.{map-append}
use Rattle.std.proofs.lemmas.List.Elements.{All-append}
use Rattle.term_core_spec.specs.declared.Variable.{Variable}
use Rattle.term_core_spec.specs.Term.{Term}
use Rattle.term_bank.specs.Nodes.{tree_at, Holds, Extends}
use Rattle.term_bank.proofs.Growth.{tree_at-front, length-Extends, within_added}
use Rattle.term_bank.proofs.Substitution.{is_at, extends_through}
use Rattle.graph_core_spec.specs.Graph as spec
use Rattle.graph_core.specs.declared.graph.Graph.{Graph}
use Rattle.graph_core.specs.declared.shared.SharedBinding.{SharedBinding}
use Rattle.graph_core.specs.declared.shared.SharedNode.{SharedNode}
use Rattle.graph_core.specs.declared.shared.SharedNode.TheVariants.{Basic, Cond, Call}
use Rattle.graph_core.specs.Shared.{shared_binding_of, shared_node_of, AreSharedBindings, IsSharedNode}
use Rattle.graph_core.specs.Graphs.{AreShared, Grows}

-- functions that are the same at each element
same_map : {X Y : Type 0} (W : X → Type 0) (f g : X → Y) → ((x : X) → W x → f x ≡ g x) → (xs : List X) → All W xs → map f xs ≡ map g xs
same_map W f g same [] all = refl
same_map W f g same (x ∷ xs) all = ap₂ (λ y ys. y ∷ ys) (same x (all zero x (omega arith))) (same_map W f g same xs (λ k d less. all (suc k) d (omega arith)))

module _ (old new : List Term) (grows : Extends old new) where
  term_kept : (id : ℕ) → id < length old → tree_at new id ≡ tree_at old id
  term_kept id less = ap (λ (trees : List Term). tree_at trees id) grows.1 ∙ tree_at-front old grows.0 id less

  binding_kept : (b : SharedBinding) → b.term < length old → shared_binding_of new b ≡ shared_binding_of old b
  binding_kept b less = ap (λ (t : Term). record { variable = b.variable; term = t }) (term_kept b.term less)

  pub bindings_kept : (bindings : List SharedBinding) → AreSharedBindings (length old) bindings → map (shared_binding_of new) bindings ≡ map (shared_binding_of old) bindings
  bindings_kept bindings within = same_map (λ b. b.term < length old) (shared_binding_of new) (shared_binding_of old) binding_kept bindings within

  node_kept : (node : SharedNode) → IsSharedNode (length old) node → shared_node_of new node ≡ shared_node_of old node
  node_kept (Basic bindings next) h = ap (λ (bs : List spec.Binding). spec.Basic bs next) (bindings_kept bindings.items h)
  node_kept (Cond test on_true on_false) h = ap (λ (t : Term). spec.Cond t on_true on_false) (term_kept test h)
  node_kept (Call callee inputs outputs landing) h =
      ap₂ (λ (ins outs : List spec.Binding). spec.Call callee ins outs landing) (bindings_kept inputs.items h.0) (bindings_kept outputs.items h.1)

  pub nodes_kept : (nodes : List SharedNode) → All (IsSharedNode (length old)) nodes → map (shared_node_of new) nodes ≡ map (shared_node_of old) nodes
  nodes_kept nodes within = same_map (IsSharedNode (length old)) (shared_node_of new) (shared_node_of old) node_kept nodes within

  pub shared_later : (bindings : List spec.Binding) (shared : List SharedBinding) → AreShared old bindings shared → AreShared new bindings shared
  shared_later bindings shared h =
      let longer = length-Extends old new grows in
      record {
        within = λ k d less. let below = h.within k d less in omega arith;
        are = bindings_kept shared h.within ∙ h.are;
      }

  -- one binding more
  pub shared_push : (bindings : List spec.Binding) (shared : List SharedBinding) (v : Variable) (id : ℕ) (t : Term) → AreShared old bindings shared → Holds new id t
      → AreShared new (bindings ++ record { variable = v; term = t } ∷ []) (shared ++ record { variable = v; term = id } ∷ [])
  shared_push bindings shared v id t h at =
      let last : SharedBinding = record { variable = v; term = id } in
      let kept = shared_later bindings shared h in
      record {
        within = All-append (λ (b : SharedBinding). b.term < length new) shared (last ∷ []) kept.within (one (λ (b : SharedBinding). b.term < length new) last (within_added new id t at));
        are = map-append (shared_binding_of new) shared (last ∷ [])
            ∙ ap₂ (λ (bs : List spec.Binding) (x : Term). bs ++ record { variable = v; term = x } ∷ []) kept.are (is_at new id t at);
      }
    where
      one : {X : Type 0} (P : X → Type 0) (x : X) → P x → All P (x ∷ [])
      one P x holds zero d less = holds
      one P x holds (suc k) d less = absurd (omega arith)

pub grows_then : (a b c : Graph) → Grows a b → Grows b c → Grows a c
grows_then a b c one two = record { extends = extends_through a.trees b.trees c.trees one.extends two.extends; graph = two.graph ∙ one.graph }
