use Rattle.std.proofs.Common.{◌≡◌, ℕ, ◌<◌, Some}
use Rattle.std.specs.Prelude.{slice_get}
use Rattle.std.specs.HashMap.{get}
use Rattle.term_core_spec.specs.declared.Variable.{Variable}
use Rattle.term_core_spec.specs.Same.{same_variable}
use Rattle.term_bank.specs.Nodes.{Holds, Extends}
use Rattle.term_substitution.specs.States.{state_of}
use Rattle.path_cond.specs.Ids.{id_at}
use Rattle.path_cond.proofs.walk.start_ids.Given as goal

abbrev pub invariant-loop-number : goal.invariant-loop-number
invariant-loop-number l = record {
  extends : Extends l.fn.bank l.bank;
  bound : (k : ℕ) (v : Variable) → k < l.number → slice_get l.variables.keys k ≡ Some v
      → (id : ℕ) × (id_at l.ids k ≡ Some id) × Holds l.bank id (state_of l.fn.bank (get same_variable l.start) v);
}
