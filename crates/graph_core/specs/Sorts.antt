-- When nodes are well sorted, by the sorts of the first terms of a bank.
use Rattle.std.specs.Prelude.{◌≡◌, ℕ, ◌<◌, List, length, slice_get, All, Option, Some}
use Rattle.term_core_spec.specs.declared.Sort.{Sort}
use Rattle.term_core_spec.specs.declared.Sort.TheVariants as sort
use Rattle.term_core_spec.specs.Term.{Term}
use Rattle.term_sorts.specs.Sorts.{AreSorts}
use Rattle.graph_core_spec.specs.Graph.{IsNext}
use Rattle.graph_core.specs.declared.shared.SharedBinding.{SharedBinding}
use Rattle.graph_core.specs.declared.shared.SharedNode.{SharedNode}
use Rattle.graph_core.specs.declared.shared.SharedNode.TheVariants.{Basic, Cond, Call}
use Rattle.graph_core.specs.Shared.{IsSharedNode}

-- the nodes' terms are among these
pub record IsStored (trees : List Term) (sorts : List (Option Sort)) (nodes : List SharedNode) : Type 0 where
  pub sorted : AreSorts trees sorts
  pub inside : All (IsSharedNode (length sorts)) nodes

-- ---- well sorted nodes

-- the term has the sort
abbrev pub HasSort : List (Option Sort) → ℕ → Sort → Type 0
HasSort sorts id expected = slice_get sorts id ≡ Some (Some expected)

abbrev pub IsSortedBinding : List (Option Sort) → SharedBinding → Type 0
IsSortedBinding sorts b = HasSort sorts b.term b.variable.sort

abbrev pub AreSorted : List (Option Sort) → List SharedBinding → Type 0
AreSorted sorts bindings = All (IsSortedBinding sorts) bindings

-- its terms are well sorted, and the nodes that it names are among so many
abbrev pub IsSortedNode : List (Option Sort) → ℕ → SharedNode → Type 0
IsSortedNode sorts count (Basic bindings next) = AreSorted sorts bindings.items × IsNext count next
IsSortedNode sorts count (Cond test on_true on_false) = HasSort sorts test sort.Truth × IsNext count on_true × IsNext count on_false
IsSortedNode sorts count (Call callee inputs outputs landing) = AreSorted sorts inputs.items × AreSorted sorts outputs.items × (landing < count)
