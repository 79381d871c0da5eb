-- What is answered of the stack of listed functions.
use Rattle.std.specs.Prelude.{◌≡◌, ◌≤◌, ℕ, List, length, get_or, slice_get, Some}
use Rattle.elf_read_spec.specs.Image.{Image}
use Rattle.code_reach_spec.specs.Code.{IsStack}
use Rattle.c_types_spec.specs.Core.{Typed}
use Rattle.tv_limits.specs.declared.TheConstants.{MAX_STACK}
use Rattle.pair_setup_spec.specs.Faults.{IsRecursive, HasReachFault, IsFirstReachFault, IsShallow}
use Rattle.pair_setup_spec.specs.Outcome.{IsFunction}
use Rattle.pair_setup.specs.declared.reach.Depth.{Depth}
use Rattle.pair_setup.specs.declared.reach.Depth.TheVariants.{Stack, Fault}
use Rattle.pair_setup.specs.declared.outcome.Function.{Function}
use Rattle.pair_setup.specs.declared.outcome.Named.TheVariants.{Nothing, Listed, Declared}
use Rattle.attempt.specs.declared.refusal.Refusal.{Refusal}
use Rattle.attempt.specs.declared.refusal.Refusal.TheVariants as refusal
use Rattle.pair_setup.specs.declared.outcome.PairFault.{PairFault}
use Rattle.pair_setup.specs.declared.outcome.PairFault.TheVariants.{Refused, Code, Nodes}
use Rattle.pair_setup_spec.specs.Outcome as spec

-- neither side reaches a cycle, and this is the stack, within the limit
pub record IsShallowStack (image : Image) (unit : Typed) (name : List ℕ) (entry stack : ℕ) : Type 0 where
  pub acyclic : IsRecursive image unit name entry → ⊥
  pub stack_is : IsStack image entry stack
  pub within : stack ≤ MAX_STACK

-- the stack of the function, or the fault of what it reaches
abbrev pub IsDepthOf : Image → Typed → (name : List ℕ) → (entry : ℕ) → Depth → Type 0
IsDepthOf image unit name entry (Stack stack) = IsShallowStack image unit name entry stack
IsDepthOf image unit name entry (Fault kind) = HasReachFault image unit name entry kind

-- a function with its name
abbrev pub with_name : List ℕ → Function → spec.Function
with_name name f = record { name = name; entry = f.entry; size = f.size; stack = f.stack }

-- what there is of a listed function that reaches no cycle and takes little stack
pub record IsSoundFunction (image : Image) (unit : Typed) (name : List ℕ) (f : Function) : Type 0 where
  pub function_is : IsFunction image unit (with_name name f)
  pub shallow : IsShallow image unit name

-- the same of each listed function
pub record AreFunctions (image : Image) (unit : Typed) (list : List (List ℕ)) (functions : List Function) : Type 0 where
  pub long : length functions ≡ length list
  pub each : (index : ℕ) (name : List ℕ) (d : Function) → slice_get list index ≡ Some name → IsSoundFunction image unit name (get_or functions index d)

-- ---- faults

-- the function of an index of the list has this fault; out of memory may come at any time
abbrev pub IsDepthErrorAt : Image → Typed → (name : List ℕ) → (entry index : ℕ) → Refusal PairFault → Type 0
IsDepthErrorAt image unit name entry index (refusal.Fault (Refused kind (Listed i))) = (i ≡ index) × HasReachFault image unit name entry kind
IsDepthErrorAt image unit name entry index (refusal.Fault (Refused kind Nothing)) = ⊥
IsDepthErrorAt image unit name entry index (refusal.Fault (Refused kind (Declared number))) = ⊥
IsDepthErrorAt image unit name entry index (refusal.Fault (Code fault at)) = ⊥
IsDepthErrorAt image unit name entry index (refusal.Fault Nodes) = ⊥
IsDepthErrorAt image unit name entry index refusal.NoMemory = Unit {0}

-- it is that of the first listed function with one
abbrev pub IsFirstDepthError : Image → Typed → (list : List (List ℕ)) → Refusal PairFault → Type 0
IsFirstDepthError image unit list (refusal.Fault (Refused kind (Listed index))) = (name : List ℕ) × (slice_get list index ≡ Some name) × IsFirstReachFault image unit list kind name
IsFirstDepthError image unit list (refusal.Fault (Refused kind Nothing)) = ⊥
IsFirstDepthError image unit list (refusal.Fault (Refused kind (Declared number))) = ⊥
IsFirstDepthError image unit list (refusal.Fault (Code fault at)) = ⊥
IsFirstDepthError image unit list (refusal.Fault Nodes) = ⊥
IsFirstDepthError image unit list refusal.NoMemory = Unit {0}
