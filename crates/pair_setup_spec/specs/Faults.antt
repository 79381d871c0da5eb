-- Why listed functions can't be paired with their source, and which fault is answered.
use Rattle.std.specs.Prelude.{◌≡◌, ◌≢◌, ◌⊎◌, ℕ, ◌<◌, List, [], ◌∷◌, ◌++◌, map, filter, Contains, All, Option, Some, None}
use Rattle.elf_read_spec.specs.declared.fields.TheConstants.{STT_OBJECT}
use Rattle.elf_read_spec.specs.declared.SymbolValues.TheVariants.{Absent, One}
use Rattle.elf_read_spec.specs.Image.{Image, has_name, first_of, function_named, object_named}
use Rattle.code_reach_spec.specs.Code.{IsStack}
use Rattle.code_reach_spec.specs.Code as code
use Rattle.c_types_spec.specs.Core.{Typed, GlobalSize, Sized, AnySize, NoSize, Global}
use Rattle.tv_limits.specs.declared.TheConstants.{MAX_STACK}
use Rattle.pair_setup_spec.specs.declared.PairKind.{PairKind}
use Rattle.pair_setup_spec.specs.declared.PairKind.TheVariants.{NoSource, NoSymbol, ObjectSize, Recursive, StackTooDeep}
use Rattle.pair_setup_spec.specs.SourceReach.{Reaches, IsCyclic, Names, body_of}

-- ---- one function

-- a function that the listed one reaches, perhaps itself, has no body
pub record LacksBody (unit : Typed) (name other : List ℕ) : Type 0 where
  pub reached : Reaches unit name other
  pub absent : body_of unit other ≡ None

-- the size of the first OBJECT symbol of a name
abbrev pub object_size : Image → List ℕ → Option ℕ
object_size image name = first_of (map (λ s. s.size) (filter (has_name STT_OBJECT name) image.symbols))

-- the first OBJECT symbol of a name has a size that the type of the global of that name gives it
abbrev pub HasSize : Image → (name : List ℕ) → GlobalSize → Type 0
HasSize image name (Sized bytes) = object_size image name ≡ Some bytes
HasSize image name AnySize = Unit {0}
HasSize image name NoSize = ⊥

-- the file has the global: OBJECT symbols of one value, the first of which has a size of the global
pub record IsPlaced (image : Image) (global : Global) : Type 0 where
  pub address : ℕ
  pub symbol : object_named image global.global ≡ One address
  pub sized : HasSize image global.global global.size

-- a global of this name that the listed function uses isn't placed
pub record IsMisplaced (image : Image) (unit : Typed) (name global : List ℕ) : Type 0 where
  pub declared : Global
  pub is_declared : Contains unit.globals declared
  pub name_is : declared.global ≡ global
  pub named : Names unit name global
  pub misplaced : IsPlaced image declared → ⊥

-- a cycle of calls is reached, in the source or in the code
pub data IsRecursive (image : Image) (unit : Typed) (name : List ℕ) (entry : ℕ) : Type 0 where
  in_source : IsCyclic unit name → IsRecursive image unit name entry
  in_code : code.IsCyclic image entry → IsRecursive image unit name entry

pub record IsTooDeep (image : Image) (entry : ℕ) : Type 0 where
  pub stack : ℕ
  pub stack_is : IsStack image entry stack
  pub above : MAX_STACK < stack

-- ---- the first of several

-- the first of these names for which it holds
pub record IsFirstOf (names : List (List ℕ)) (P : List ℕ → Type 0) (name : List ℕ) : Type 0 where
  pub prefix : List (List ℕ)
  pub rest : List (List ℕ)
  pub split : names ≡ prefix ++ (name ∷ rest)
  pub earlier : All (λ other. P other → ⊥) prefix
  pub holds : P name

-- the names of functions in source order; a name that the source doesn't declare comes last
abbrev pub function_names : Typed → (listed : List ℕ) → List (List ℕ)
function_names unit listed = map (λ entry. entry.0) unit.functions ++ listed ∷ []

abbrev pub global_names : Typed → List (List ℕ)
global_names unit = map (λ (global : Global). global.global) unit.globals

-- ---- a listed function

-- what is asked of the names of a listed function before its code is looked at: bodies, a symbol, and globals
pub record HasNames (image : Image) (unit : Typed) (listed : List ℕ) : Type 0 where
  pub bodies : (other : List ℕ) → LacksBody unit listed other → ⊥
  pub symbol : function_named image listed ≢ Absent
  pub globals : (global : List ℕ) → IsMisplaced image unit listed global → ⊥

-- the first fault of its names, in this order, and the name of which it speaks
pub data HasNameFault (image : Image) (unit : Typed) (listed : List ℕ) : PairKind → (name : List ℕ) → Type 0 where
  no_source : (name : List ℕ) → IsFirstOf (function_names unit listed) (LacksBody unit listed) name
      → HasNameFault image unit listed NoSource name
  no_symbol : ((other : List ℕ) → LacksBody unit listed other → ⊥) → function_named image listed ≡ Absent
      → HasNameFault image unit listed NoSymbol listed
  misplaced_global : (name : List ℕ) → ((other : List ℕ) → LacksBody unit listed other → ⊥) → function_named image listed ≢ Absent
      → IsFirstOf (global_names unit) (IsMisplaced image unit listed) name → HasNameFault image unit listed ObjectSize name

-- the fault of what it reaches, where its names and its code have none
pub data HasReachFault (image : Image) (unit : Typed) (listed : List ℕ) (entry : ℕ) : PairKind → Type 0 where
  recursive : IsRecursive image unit listed entry → HasReachFault image unit listed entry Recursive
  too_deep : (IsRecursive image unit listed entry → ⊥) → IsTooDeep image entry → HasReachFault image unit listed entry StackTooDeep

-- ---- a list

-- the first listed function whose names have a fault, and that fault
pub record IsFirstNameFault (image : Image) (unit : Typed) (list : List (List ℕ)) (kind : PairKind) (name : List ℕ) : Type 0 where
  pub listed : List ℕ
  pub prefix : List (List ℕ)
  pub rest : List (List ℕ)
  pub split : list ≡ prefix ++ (listed ∷ rest)
  pub earlier : All (HasNames image unit) prefix
  pub fault : HasNameFault image unit listed kind name

-- neither side of a listed function reaches a cycle, and its stack is within the limit
pub record IsShallow (image : Image) (unit : Typed) (listed : List ℕ) : Type 0 where
  pub entry : ℕ
  pub entry_is : function_named image listed ≡ One entry
  pub acyclic : IsRecursive image unit listed entry → ⊥
  pub within : IsTooDeep image entry → ⊥

pub record IsFirstReachFault (image : Image) (unit : Typed) (list : List (List ℕ)) (kind : PairKind) (listed : List ℕ) : Type 0 where
  pub prefix : List (List ℕ)
  pub rest : List (List ℕ)
  pub split : list ≡ prefix ++ (listed ∷ rest)
  pub earlier : All (IsShallow image unit) prefix
  pub entry : ℕ
  pub entry_is : function_named image listed ≡ One entry
  pub fault : HasReachFault image unit listed entry kind
