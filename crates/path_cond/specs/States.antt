-- States by the numbers of the variables that a graph binds: a variable's number is its index in a list.
use Rattle.std.specs.Prelude.{◌≡◌, ℕ, ◌<◌, true, false, if◌then◌else◌, List, length, slice_get, is_some, Option, Some, None}
use Rattle.term_core_spec.specs.declared.Variable.{Variable}
use Rattle.term_core_spec.specs.Same.{same_variable}
use Rattle.term_core_spec.specs.Term.{Term}
use Rattle.term_core_spec.specs.Substitution.{State}
use Rattle.term_bank.specs.Nodes.{Holds}
use Rattle.term_substitution.specs.States.{state_of, AreBelow}
use Rattle.path_cond.specs.Bound.{has}

-- each bound variable has the id of its term, and the others have the terms of the start
pub record HasState (trees : List Term) (variables : List Variable) (start : State) (ids : ℕ → Option ℕ) (state : State) : Type 0 where
  pub bound : (k : ℕ) (v : Variable) → slice_get variables k ≡ Some v → (id : ℕ) × (ids k ≡ Some id) × Holds trees id (state v)
  pub others : (v : Variable) → has variables v ≡ false → state v ≡ start v

-- the map has the state's terms; a variable that it lacks is itself
abbrev pub IsCurrent : List Term → (Variable → Option ℕ) → State → Type 0
IsCurrent trees ids state = (v : Variable) → state_of trees ids v ≡ state v

-- so has a map of ids of this bank
pub record IsMapOf (trees : List Term) (ids : Variable → Option ℕ) (state : State) : Type 0 where
  pub current : IsCurrent trees ids state
  pub below : AreBelow (length trees) ids

-- at each number below the count there is an id of a bank of so many terms
abbrev pub IsFull : (terms count : ℕ) → (ℕ → Option ℕ) → Type 0
IsFull terms count ids = (k : ℕ) → k < count → (id : ℕ) × (ids k ≡ Some id) × (id < terms)

-- the map has these ids at the variables of the list, and what it had at the others
pub record IsSet (variables : List Variable) (ids : ℕ → Option ℕ) (old new : Variable → Option ℕ) : Type 0 where
  pub bound : (k : ℕ) (v : Variable) → slice_get variables k ≡ Some v → new v ≡ ids k
  pub others : (v : Variable) → has variables v ≡ false → new v ≡ old v

-- the ids with that of one variable changed
abbrev pub IsPut : List Variable → (ℕ → Option ℕ) → Variable → ℕ → (ℕ → Option ℕ) → Type 0
IsPut variables old v id new = (k : ℕ) (w : Variable) → slice_get variables k ≡ Some w → new k ≡ (if same_variable w v then Some id else old k)

-- at each number below the count there is an id
abbrev pub IsNumbered : ℕ → (ℕ → Option ℕ) → Type 0
IsNumbered count ids = (k : ℕ) → k < count → is_some (ids k) ≡ true

-- the map has the terms of the start at all other variables
abbrev pub IsOutside : List Term → List Variable → State → (Variable → Option ℕ) → Type 0
IsOutside trees variables start ids = (v : Variable) → has variables v ≡ false → state_of trees ids v ≡ start v

-- the map keeps its terms, but at the variables of the list, as the bank grows
pub record Stays (before now : List Term) (variables : List Variable) (old new : Variable → Option ℕ) : Type 0 where
  pub below : AreBelow (length now) new
  pub outside : (start : State) → IsOutside before variables start old → IsOutside now variables start new

-- the ids, and the map, have the terms of the start
pub record IsStart (trees : List Term) (variables : List Variable) (start : State) (ids : ℕ → Option ℕ) (current : Variable → Option ℕ) : Type 0 where
  pub first : HasState trees variables start ids start
  pub outside : IsOutside trees variables start current

-- no term was taken from another bank
abbrev pub IsUntaken : (ℕ → Option ℕ) → Type 0
IsUntaken done = (id : ℕ) → done id ≡ None
