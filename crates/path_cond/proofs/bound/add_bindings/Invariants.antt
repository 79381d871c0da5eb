use Rattle.std.proofs.Common.{◌≡◌, ℕ, ◌<◌, true, get_or}
use Rattle.graph_core.specs.declared.shared.SharedBinding.{SharedBinding}
use Rattle.path_cond.specs.Bound.{has, KeepsListed}
use Rattle.path_cond.proofs.bound.add_bindings.Given as goal

abbrev pub invariant-loop-binding : goal.invariant-loop-binding
invariant-loop-binding l = record {
  listed : (k : ℕ) (d : SharedBinding) → k < l.binding-index → has l.variables.keys (get_or l.bindings k d).variable ≡ true;
  kept : KeepsListed l.fn.variables.keys l.variables.keys;
}
