-- What is well sorted by the sorts of a bank's terms, and that it stays so as the bank grows.
use Rattle.std.proofs.Common.{◌≡◌, ◌∙◌, ℕ, ◌<◌, ◌≤◌, List, length, map, get_or, Option, Some, sym, ap, arith}
use Rattle.std.specs.Prelude.{◌↔◌, slice_get}
use Rattle.std.specs.List.{All}
use Rattle.std.proofs.lemmas.Option.{same_Some}
use Rattle.term_core_spec.specs.declared.Sort.{Sort}
use Rattle.term_core_spec.specs.declared.Sort.TheVariants as sort
use Rattle.term_core_spec.specs.Term.{Term}
use Rattle.term_core_spec.specs.Sort.{sort_of}
use Rattle.term_bank.specs.Nodes.{tree_at, Extends}
use Rattle.term_sorts.specs.Sorts.{AreSorts}
use Rattle.term_sorts.proofs.Sorted.{sorts_later}
use Rattle.graph_core_spec.specs.Graph as spec
use Rattle.graph_core.specs.declared.shared.SharedBinding.{SharedBinding}
use Rattle.graph_core.specs.declared.shared.SharedNode.{SharedNode}
use Rattle.graph_core.specs.declared.shared.SharedNode.TheVariants.{Basic, Cond, Call}
use Rattle.graph_core.specs.Shared.{shared_binding_of, shared_node_of, AreSharedBindings, IsSharedNode}
use Rattle.graph_core.specs.Sorts.{IsStored, HasSort, IsSortedBinding, AreSorted, IsSortedNode}
use Rattle.graph_core.proofs.Each.{all_same}

-- ---- growth

pub stored_later : (old new : List Term) (sorts : List (Option Sort)) (nodes : List SharedNode) → Extends old new → IsStored old sorts nodes → IsStored new sorts nodes
stored_later old new sorts nodes grows stored = record { sorted = sorts_later old new sorts grows stored.sorted; inside = stored.inside }

bindings_below : (m n : ℕ) → m ≤ n → (bindings : List SharedBinding) → AreSharedBindings m bindings → AreSharedBindings n bindings
bindings_below m n le bindings all = λ k d less. let below = all k d less in omega arith

pub node_below : (m n : ℕ) → m ≤ n → (node : SharedNode) → IsSharedNode m node → IsSharedNode n node
node_below m n le (Basic bindings next) h = bindings_below m n le bindings.items h
node_below m n le (Cond test on_true on_false) h = omega arith
node_below m n le (Call callee inputs outputs landing) h = (bindings_below m n le inputs.items h.0, bindings_below m n le outputs.items h.1)

pub nodes_below : (m n : ℕ) → m ≤ n → (nodes : List SharedNode) → All (IsSharedNode m) nodes → All (IsSharedNode n) nodes
nodes_below m n le nodes all = λ k d less. node_below m n le (get_or nodes k d) (all k d less)

-- ---- well sorted nodes are those of the definition

module _ (trees : List Term) (sorts : List (Option Sort)) (are : AreSorts trees sorts) where
  sort_same : (id : ℕ) (expected : Sort) → id < length sorts → HasSort sorts id expected ↔ (sort_of (tree_at trees id) ≡ Some expected)
  sort_same id expected less = (λ h. same_Some (sort_of (tree_at trees id)) (Some expected) (sym (are.each id less) ∙ h), λ e. are.each id less ∙ ap Some e)

  bindings_same : (bindings : List SharedBinding) → AreSharedBindings (length sorts) bindings → AreSorted sorts bindings ↔ spec.AreBindings (map (shared_binding_of trees) bindings)
  bindings_same bindings within =
      all_same (IsSortedBinding sorts) (λ b. b.term < length sorts) spec.IsBinding (shared_binding_of trees) (λ b less. sort_same b.term b.variable.sort less) bindings within

  node_same : (count : ℕ) (node : SharedNode) → IsSharedNode (length sorts) node → IsSortedNode sorts count node ↔ spec.IsNode count (shared_node_of trees node)
  node_same count (Basic bindings next) within =
      let same = bindings_same bindings.items within in
      (λ h. (same.0 h.0, h.1), λ h. (same.1 h.0, h.1))
  node_same count (Cond test on_true on_false) within =
      let same = sort_same test sort.Truth within in
      (λ h. (same.0 h.0, h.1, h.2), λ h. (same.1 h.0, h.1, h.2))
  node_same count (Call callee inputs outputs landing) within =
      let ins = bindings_same inputs.items within.0 in
      let outs = bindings_same outputs.items within.1 in
      (λ h. (ins.0 h.0, outs.0 h.1, h.2), λ h. (ins.1 h.0, outs.1 h.1, h.2))

  pub nodes_same : (count : ℕ) (nodes : List SharedNode) → All (IsSharedNode (length sorts)) nodes
      → All (IsSortedNode sorts count) nodes ↔ All (spec.IsNode count) (map (shared_node_of trees) nodes)
  nodes_same count nodes within = all_same (IsSortedNode sorts count) (IsSharedNode (length sorts)) (spec.IsNode count) (shared_node_of trees) (node_same count) nodes within
