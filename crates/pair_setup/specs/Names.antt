-- The faults of the names of listed functions, by the numbers of names.
use Rattle.std.specs.Prelude.{◌≡◌, ◌⊎◌, ◌≤◌, ℕ, Bool, true, false, List, get_or, Contains, All, Option, Some, None, IsSome, Result, Ok, Err}
use Rattle.elf_read_spec.specs.Image.{Image}
use Rattle.c_token_spec.specs.Words.{entry_of}
use Rattle.c_types_spec.specs.Core.{Body, Typed}
use Rattle.pair_setup_calls.specs.Graph.{IsClosed}
use Rattle.pair_setup_calls.specs.Names.{IsNumber}
use Rattle.pair_setup_spec.specs.SourceReach.{Reaches, body_of}
use Rattle.pair_setup_spec.specs.declared.PairKind.TheVariants.{NoSource, NoSymbol, ObjectSize}
use Rattle.pair_setup_spec.specs.Faults.{HasNames, HasNameFault}
use Rattle.pair_setup.specs.declared.outcome.Named.{Named}
use Rattle.pair_setup.specs.declared.outcome.Named.TheVariants.{Nothing, Listed, Declared}
use Rattle.attempt.specs.declared.refusal.Refusal.{Refusal}
use Rattle.attempt.specs.declared.refusal.Refusal.TheVariants.{Fault, NoMemory}
use Rattle.pair_setup.specs.declared.outcome.PairFault.{PairFault}
use Rattle.pair_setup.specs.declared.outcome.PairFault.TheVariants.{Refused, Code, Nodes}

-- ---- numbers

-- no function of the name is declared
abbrev pub NoFunction : Typed → List ℕ → Type 0
NoFunction unit name = entry_of unit.functions name ≡ None

-- a function of the name is declared, and this is its number
pub record IsDeclaredAt (unit : Typed) (names : List (List ℕ)) (name : List ℕ) (number : ℕ) : Type 0 where
  pub declared : IsSome (entry_of unit.functions name)
  pub number_is : IsNumber names number name

-- the name of this number is of no function with a body
abbrev pub LacksBodyAt : Typed → (names : List (List ℕ)) → (number : ℕ) → Type 0
LacksBodyAt unit names number = (name : List ℕ) → IsNumber names number name → body_of unit name ≡ None

-- the body of a number names a global of this number
pub record NamesAt (unit : Typed) (names : List (List ℕ)) (number global : ℕ) : Type 0 where
  pub name : List ℕ
  pub name_is : IsNumber names number name
  pub body : Body
  pub body_is : body_of unit name ≡ Some body
  pub other : List ℕ
  pub named : Contains body.mentions other
  pub global_is : IsNumber names global other

abbrev pub IsMarked : List Bool → (number : ℕ) → Type 0
IsMarked marks number = get_or marks number false ≡ true

-- the body of a number names a global of this number, which is marked
abbrev pub NamesMarked : Typed → (names : List (List ℕ)) → List Bool → (number global : ℕ) → Type 0
NamesMarked unit names marks number global = NamesAt unit names number global × IsMarked marks global

-- ---- the first of several

-- what one of some items gives
abbrev pub IsOf : {X : Type 0} → (X → ℕ → Type 0) → List X → ℕ → Type 0
IsOf {X = X} R items t = (x : X) × Contains items x × R x t

-- one of some numbers, which lacks a body
abbrev pub IsLacking : Typed → (names : List (List ℕ)) → (numbers : List ℕ) → (number : ℕ) → Type 0
IsLacking unit names numbers number = Contains numbers number × LacksBodyAt unit names number

-- the number of a marked global that the bodies of some numbers name
abbrev pub IsUsedMarked : Typed → (names : List (List ℕ)) → List Bool → (numbers : List ℕ) → (global : ℕ) → Type 0
IsUsedMarked unit names marks numbers global = IsOf (NamesMarked unit names marks) numbers global

-- the least that has the property, where one has it
abbrev pub IsLeast : (ℕ → Type 0) → Option ℕ → Type 0
IsLeast P None = (n : ℕ) → P n → ⊥
IsLeast P (Some least) = P least × ((n : ℕ) → P n → least ≤ n)

-- what is answered of the names of a function, from the least number without a body, whether its symbol is absent, and the
-- least number of a global that isn't placed
abbrev pub refusal_of : (lacking : Option ℕ) → (absent : Bool) → (global : Option ℕ) → (index : ℕ) → Result Unit (Refusal PairFault)
refusal_of (Some number) absent global index = Err (Fault (Refused NoSource (Declared number)))
refusal_of None true global index = Err (Fault (Refused NoSymbol (Listed index)))
refusal_of None false (Some number) index = Err (Fault (Refused ObjectSize (Declared number)))
refusal_of None false None index = Ok tt

-- ---- numbers that were looked at

-- nothing is wrong with the function of a number alone
pub record IsFineAt (unit : Typed) (names : List (List ℕ)) (marks : List Bool) (number : ℕ) : Type 0 where
  pub has_body : LacksBodyAt unit names number → ⊥
  pub placed : (global : ℕ) → NamesMarked unit names marks number global → ⊥

-- with each number all that it calls is there, and nothing is wrong with any
pub record AreFine (unit : Typed) (names graph : List (List ℕ)) (marks : List Bool) (numbers : List ℕ) : Type 0 where
  pub closed : IsClosed graph numbers
  pub fine : (number : ℕ) → Contains numbers number → IsFineAt unit names marks number

-- the number of a function that the source of a listed one reaches
pub record IsReachedFrom (unit : Typed) (names : List (List ℕ)) (listed : List ℕ) (number : ℕ) : Type 0 where
  pub other : List ℕ
  pub number_is : IsNumber names number other
  pub reached : Reaches unit listed other

-- the numbers of what is reached from a name are added
pub record AddsReached (unit : Typed) (names : List (List ℕ)) (name : List ℕ) (old new : List ℕ) : Type 0 where
  pub kept : (number : ℕ) → Contains old number → Contains new number
  pub only : (number : ℕ) → Contains new number → Contains old number ⊎ IsReachedFrom unit names name number
  pub all : (other : List ℕ) → Reaches unit name other → (number : ℕ) × IsNumber names number other × Contains new number

-- the names of the function have no fault, and what it reaches was looked at
pub record IsPassed (image : Image) (unit : Typed) (names graph : List (List ℕ)) (marks : List Bool) (name : List ℕ) (old new : List ℕ) : Type 0 where
  pub no_fault : HasNames image unit name
  pub fine : AreFine unit names graph marks new
  pub adds : AddsReached unit names name old new

-- these are the numbers of all that is reached from the listed functions
pub record AreReachedNumbers (unit : Typed) (names list : List (List ℕ)) (numbers : List ℕ) : Type 0 where
  pub only : (number : ℕ) → Contains numbers number → (listed : List ℕ) × Contains list listed × IsReachedFrom unit names listed number
  pub all : (listed other : List ℕ) → Contains list listed → Reaches unit listed other → (number : ℕ) × IsNumber names number other × Contains numbers number

-- the names of these functions have no fault, and all that they reach was looked at
pub record ArePassed (image : Image) (unit : Typed) (names graph : List (List ℕ)) (marks : List Bool) (list : List (List ℕ)) (numbers : List ℕ) : Type 0 where
  pub no_faults : All (HasNames image unit) list
  pub fine : AreFine unit names graph marks numbers
  pub reached : AreReachedNumbers unit names list numbers

-- ---- faults

-- the name of which a fault of the function at an index of the list speaks
abbrev pub IsNameAt : (names : List (List ℕ)) → (listed : List ℕ) → (index : ℕ) → Named → (name : List ℕ) → Type 0
IsNameAt names listed index Nothing name = ⊥
IsNameAt names listed index (Listed i) name = (i ≡ index) × (name ≡ listed)
IsNameAt names listed index (Declared number) name = IsNumber names number name

-- the names of the function at an index of the list have this fault; out of memory may come at any time
abbrev pub IsNameError : Image → Typed → (names : List (List ℕ)) → (listed : List ℕ) → (index : ℕ) → Refusal PairFault → Type 0
IsNameError image unit names listed index (Fault (Refused kind named)) = (name : List ℕ) × IsNameAt names listed index named name × HasNameFault image unit listed kind name
IsNameError image unit names listed index (Fault (Code fault at)) = ⊥
IsNameError image unit names listed index (Fault Nodes) = ⊥
IsNameError image unit names listed index NoMemory = Unit {0}
