use Rattle.std.proofs.Common.{◌≡◌, ℕ, ◌<◌, false, Some}
use Rattle.std.specs.Prelude.{slice_get}
use Rattle.std.specs.HashMap.{get}
use Rattle.term_core_spec.specs.declared.Variable.{Variable}
use Rattle.term_core_spec.specs.Same.{same_variable}
use Rattle.path_cond.specs.Bound.{has}
use Rattle.path_cond.specs.Ids.{id_at}
use Rattle.path_cond.proofs.states.set_current.Given as goal

abbrev pub invariant-loop-number : goal.invariant-loop-number
invariant-loop-number l = record {
  bound : (k : ℕ) (v : Variable) → k < l.number → slice_get l.variables.keys k ≡ Some v → get same_variable l.current v ≡ id_at l.ids k;
  others : (v : Variable) → has l.variables.keys v ≡ false → get same_variable l.current v ≡ get same_variable l.fn.current v;
}
