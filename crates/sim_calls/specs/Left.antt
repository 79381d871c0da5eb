-- What a callee leaves, in a bank.
use Rattle.std.specs.Prelude.{◌≡◌, ℕ, true, is_some, List, Option, Some, None}
use Rattle.term_core_spec.specs.declared.Variable.{Variable}
use Rattle.term_core_spec.specs.Term.{Term}
use Rattle.term_bank.specs.Nodes.{Holds}
use Rattle.path_cond.specs.Bound.{has}
use Rattle.sim_rules_spec.specs.Calls.{left}

-- the map has nothing
abbrev pub IsEmpty : (Variable → Option ℕ) → Type 0
IsEmpty ids = (v : Variable) → ids v ≡ None

-- what the map has is what the callee leaves of the variable, and it has that of each in the list
pub record AreLeft (trees : List Term) (variables : List Variable) (ids : Variable → Option ℕ) : Type 0 where
  pub each : (v : Variable) (id : ℕ) → ids v ≡ Some id → Holds trees id (left v)
  pub listed : (v : Variable) → has variables v ≡ true → is_some (ids v) ≡ true
