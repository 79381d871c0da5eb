-- Bindings and nodes over the terms of a bank that grows.
use Rattle.std.specs.Prelude.{◌≡◌, ℕ, List, ◌++◌, length, Result, IfOk, OnOk}
use Rattle.term_core_spec.specs.Term.{Term}
use Rattle.graph_core_spec.specs.Graph.{Binding, Node}
use Rattle.graph_core.specs.declared.shared.SharedBinding.{SharedBinding}
use Rattle.graph_core.specs.declared.shared.SharedNode.{SharedNode}
use Rattle.graph_core.specs.Shared.{IsSharedNode, shared_node_of}
use Rattle.graph_core.specs.Graphs.{AreShared}
use Rattle.c_graph_terms.specs.Built.{IsGrown}
use Rattle.c_graph_terms.specs.Tests.{IsTested}

-- ---- bindings

-- the bindings after are those before, and then these
pub record AreAdded (old new : List Term) (before after : List SharedBinding) (made : List Binding) : Type 0 where
  pub is_grown : IsGrown old new
  pub added : (others : List Binding) → AreShared old others before → AreShared new (others ++ made) after

abbrev pub AddsBindings : {T E : Type 0} → (old new : List Term) → (before after : List SharedBinding) → Result T E → List Binding → Type 0
AddsBindings old new before after result made = OnOk result (AreAdded old new before after made)

-- tests of guards that are added to a list, and bindings to another
pub record Passes (old new : List Term) (before after : List ℕ) (given taken : List SharedBinding) (tests : List Term) (made : List Binding) : Type 0 where
  pub tested : IsTested old new before after tests
  pub bound : AreAdded old new given taken made

-- ---- nodes

-- a node over the bank, and the tests of guards before it
pub record IsDrafted (old new : List Term) (before after : List ℕ) (node : SharedNode) (tests : List Term) (made : Node) : Type 0 where
  pub tested : IsTested old new before after tests
  pub within : IsSharedNode (length new) node
  pub is : shared_node_of new node ≡ made

abbrev pub Drafts : {E : Type 0} → (old new : List Term) → (before after : List ℕ) → Result SharedNode E → (tests : List Term) → Node → Type 0
Drafts old new before after result tests made = IfOk result (λ node. IsDrafted old new before after node tests made)

-- tests of guards that are added to a list, and those of cases to another
pub record Compares (old new : List Term) (before after : List ℕ) (given found : List ℕ) (tests cases : List Term) : Type 0 where
  pub tested : IsTested old new before after tests
  pub compared : IsTested old new given found cases
