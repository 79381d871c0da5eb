-- Conditions and states in a bank, and what is known of the visits so far.
use Rattle.std.specs.Prelude.{◌≡◌, ℕ, ◌<◌, false, List, map, slice_get, Some, All}
use Rattle.term_core_spec.specs.declared.Variable.{Variable}
use Rattle.term_core_spec.specs.Term.{Term}
use Rattle.term_core_spec.specs.Substitution.{State}
use Rattle.term_bank.specs.Nodes.{tree_at, Holds}
use Rattle.path_cond_spec.specs.Conditions.{Conditional}
use Rattle.path_cond.specs.declared.ids.Ids.{Ids}
use Rattle.path_cond.specs.Bound.{has}
use Rattle.path_cond.specs.Ids.{id_at}
use Rattle.path_cond.specs.States.{HasState, IsFull}
use Rattle.path_cond.specs.United.{ids_of}

-- the ids of a conditional's condition and state
pub record HasConditional (trees : List Term) (variables : List Variable) (start : State) (c : Conditional) (ids : ℕ × Ids) : Type 0 where
  pub condition : Holds trees ids.0 c.condition
  pub state : HasState trees variables start (id_at ids.1) c.state

-- these ids of conditions, and the states at these positions, are those of the conditionals
pub record AreConditionals (trees : List Term) (variables : List Variable) (start : State) (conditions : List ℕ) (states : List Ids) (sources : List ℕ) (cs : List Conditional) : Type 0 where
  pub conditions_are : map (tree_at trees) conditions ≡ map (λ (c : Conditional). c.condition) cs
  pub states_are : (k : ℕ) (v : Variable) → slice_get variables k ≡ Some v → map (tree_at trees) (ids_of states sources k) ≡ map (λ (c : Conditional). c.state v) cs
  pub others : (v : Variable) → has variables v ≡ false → All (λ (c : Conditional). c.state v ≡ start v) cs

-- they are ids of a bank of so many terms
abbrev pub IsFullConditional : (terms count : ℕ) → (ℕ × Ids) → Type 0
IsFullConditional terms count ids = (ids.0 < terms) × IsFull terms count (id_at ids.1)
