-- The names of a unit's file scope by numbers, and the graph of calls of its functions.
use Rattle.std.specs.Prelude.{◌≡◌, ℕ, List, [], ◌∷◌, ◌++◌, length, map, Contains, OnOk, Result, Some, slice_get, Vec}
use Rattle.std.specs.Borrow.{Bor}
use Rattle.std.specs.Global.{Global}
use Rattle.std.specs.declared.alloc.AllocError.{AllocError}
use Rattle.c_types_spec.specs.Core as tree
use Rattle.c_types_spec.specs.Statements as statement
use Rattle.c_types_scope.specs.declared.meaning.Meaning.{Meaning}
use Rattle.c_types_core.specs.Actions.{action_of, group_of}
use Rattle.c_types_core.specs.declared.action.Action.{Action}
use Rattle.c_types_core.specs.declared.action.Group.{Group}
use Rattle.c_types.specs.declared.typed.Typed.{Typed}
use Rattle.pair_setup_spec.specs.SourceReach.{CallsOn}
use Rattle.pair_setup_calls.specs.Graph.{called_by}

-- ---- lists of the program

abbrev pub texts_of : List (Bor (List ℕ)) → List (List ℕ)
texts_of texts = map (λ text. text.now) texts

-- statements one after the other
abbrev pub block_of : List Action → tree.Action
block_of actions = tree.sequence (map action_of actions)

abbrev pub groups_of : List Group → tree.Groups
groups_of groups = statement.groups_in (map group_of groups)

-- these names are added, last
abbrev pub Adds : Result Unit AllocError → (old new : Vec (Bor (List ℕ)) Global) → List (List ℕ) → Type 0
Adds result old new names = OnOk result (texts_of new.items ≡ texts_of old.items ++ names)

-- ---- numbers

-- the names in the order of their first declarations
abbrev pub names_of : Typed → List (List ℕ)
names_of unit = map (λ (entry : Bor (List ℕ) × Meaning). entry.0.now) unit.names.entries

abbrev pub IsNumber : (names : List (List ℕ)) → (number : ℕ) → (name : List ℕ) → Type 0
IsNumber names number name = slice_get names number ≡ Some name

-- each name has one number
abbrev pub AreApart : (names : List (List ℕ)) → Type 0
AreApart names = (number other : ℕ) (name : List ℕ) → IsNumber names number name → IsNumber names other name → number ≡ other

-- it is the number of one of these names
abbrev pub HasNumberAmong : (names list : List (List ℕ)) → (number : ℕ) → Type 0
HasNumberAmong names list number = (name : List ℕ) × Contains list name × IsNumber names number name

-- ---- calls

-- these are the numbers of the functions that the body of a number calls
pub record AreCalled (unit : tree.Typed) (names : List (List ℕ)) (caller : ℕ) (numbers : List ℕ) : Type 0 where
  pub there : (number : ℕ) → Contains numbers number
      → (name other : List ℕ) × IsNumber names caller name × IsNumber names number other × CallsOn unit name other
  pub back : (number : ℕ) (name other : List ℕ) → IsNumber names caller name → IsNumber names number other → CallsOn unit name other
      → Contains numbers number

-- one number calls another where the function of the first calls that of the second
abbrev pub IsCallGraph : (unit : tree.Typed) → (names : List (List ℕ)) → List (List ℕ) → Type 0
IsCallGraph unit names graph = (caller : ℕ) → AreCalled unit names caller (called_by graph caller)
