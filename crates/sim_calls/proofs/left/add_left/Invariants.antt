use Rattle.std.proofs.Common.{◌≡◌, ℕ, ◌≤◌, true, length, Some, take}
use Rattle.std.specs.Prelude.{is_some}
use Rattle.std.specs.HashMap.{get}
use Rattle.term_core_spec.specs.declared.Variable.{Variable}
use Rattle.term_core_spec.specs.Same.{same_variable}
use Rattle.term_bank.specs.Nodes.{Holds, Extends}
use Rattle.path_cond.specs.Bound.{has}
use Rattle.sim_rules_spec.specs.Calls.{left}
use Rattle.sim_calls.proofs.left.add_left.Given as goal

-- what is left of the variables so far
abbrev pub invariant-loop-number : goal.invariant-loop-number
invariant-loop-number l = record {
  extends : Extends l.fn.bank l.bank;
  longer : length l.fn.bank ≤ length l.bank;
  each : (v : Variable) (id : ℕ) → get same_variable l.terms v ≡ Some id → Holds l.bank id (left v);
  listed : (v : Variable) → has (take l.number l.variables.keys) v ≡ true → is_some (get same_variable l.terms v) ≡ true;
}
