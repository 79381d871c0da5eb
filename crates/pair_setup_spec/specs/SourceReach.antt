-- What the body of a C function calls, and which functions it reaches.
use Rattle.std.specs.Prelude.{◌≡◌, ℕ, List, [], ◌∷◌, ◌++◌, Contains, Option, Some, bytes_eq, find}
use Rattle.c_types_spec.specs.Core.{Action, Sequence, Call, If, Loop, Switch, Groups, no_groups, groups, Body, Typed}

-- ---- a body

-- the functions that a statement calls
unfoldable mutual
  pub calls_in : Action → List (List ℕ)
  calls_in (Sequence a b) = calls_in a ++ calls_in b
  calls_in (Call number function arguments result) = function ∷ []
  calls_in (If test a b) = calls_in a ++ calls_in b
  calls_in (Loop number place test step body) = calls_in step ++ calls_in body
  calls_in (Switch test list) = calls_in_groups list
  calls_in other = []

  pub calls_in_groups : Groups → List (List ℕ)
  calls_in_groups no_groups = []
  calls_in_groups (groups values body rest) = calls_in body ++ calls_in_groups rest

-- ---- a unit

-- the body of the function of a name
abbrev pub body_of : Typed → List ℕ → Option Body
body_of unit name = find (λ (body : Body). bytes_eq body.name name) unit.bodies

-- the body of a function calls another one directly
pub record CallsOn (unit : Typed) (name other : List ℕ) : Type 0 where
  pub body : Body
  pub body_is : body_of unit name ≡ Some body
  pub calls : Contains (calls_in body.action) other

-- the functions that calls reach from a function, itself among them
pub data Reaches (unit : Typed) (name : List ℕ) : List ℕ → Type 0 where
  itself : Reaches unit name name
  further : (middle other : List ℕ) → Reaches unit name middle → CallsOn unit middle other → Reaches unit name other

-- a cycle of calls is reached: a function that is reached calls back to one that reaches it
pub record IsCyclic (unit : Typed) (name : List ℕ) : Type 0 where
  pub other : List ℕ
  pub reached : Reaches unit name other
  pub last : List ℕ
  pub onward : Reaches unit other last
  pub back : CallsOn unit last other

-- a body that is reached names the global
pub record Names (unit : Typed) (name global : List ℕ) : Type 0 where
  pub other : List ℕ
  pub reached : Reaches unit name other
  pub body : Body
  pub body_is : body_of unit other ≡ Some body
  pub named : Contains body.mentions global
