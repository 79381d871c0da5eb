use Rattle.std.proofs.Common.{ℕ, ◌<◌, get_or}
use Rattle.graph_core.specs.declared.shared.SharedBinding.{SharedBinding}
use Rattle.graph_core.specs.Sorts.{IsSortedBinding}
use Rattle.graph_core.proofs.validity.are_bindings.Given as goal

-- those so far are bindings
abbrev pub invariant-loop-binding : goal.invariant-loop-binding
invariant-loop-binding l = (k : ℕ) (d : SharedBinding) → k < l.binding-index → IsSortedBinding l.sorts (get_or l.bindings k d)
