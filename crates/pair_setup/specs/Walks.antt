-- One walk over the code of all listed functions.
use Rattle.std.specs.Prelude.{◌≡◌, ◌+◌, ◌<◌, ◌≤◌, ℕ, List, length, get_or, Contains, Some}
use Rattle.elf_read_spec.specs.Image.{Image, function_named, size_at}
use Rattle.elf_read_spec.specs.declared.SymbolValues.TheVariants.{One}
use Rattle.code_reach_spec.specs.Code.{CallsOn, Reaches}
use Rattle.code_reach_spec.specs.Faults.{HasNoFault}
use Rattle.pair_setup_calls.specs.Graph.{Grows}
use Rattle.pair_setup_spec.specs.Outcome.{IsReached}
use Rattle.pair_setup.specs.Calling.{AreSteps}
use Rattle.pair_setup.specs.Codes.{AreSound}
use Rattle.pair_setup.specs.Names.{IsOf}
use Rattle.pair_setup.specs.declared.calling.Step.{Step}

-- an instruction calls the function at an entry
abbrev pub IsCalled : Step → (target : ℕ) → Type 0
IsCalled step target = step.callee ≡ Some target

-- the function of a name is at an entry
abbrev pub IsEntry : Image → (name : List ℕ) → (entry : ℕ) → Type 0
IsEntry image name entry = function_named image name ≡ One entry

-- the function at an entry has no fault, and what it calls is added
pub record IsVisited (image : Image) (entry : ℕ) (old new : List ℕ) : Type 0 where
  pub steps : List Step
  pub are : AreSteps image entry steps
  pub grows : Grows (IsOf IsCalled steps) old new

-- the function at an entry has no fault, and what it calls is among the entries
pub record IsSoundAlone (image : Image) (entries : List ℕ) (entry : ℕ) : Type 0 where
  pub size : ℕ
  pub size_is : size_at image entry ≡ Some size
  pub sound : HasNoFault image entry size
  pub calls : (target : ℕ) → CallsOn image entry size target → Contains entries target

-- an entry is reached from one of some
abbrev pub IsReachedFrom : Image → (entries : List ℕ) → (entry : ℕ) → Type 0
IsReachedFrom image entries entry = (from : ℕ) × Contains entries from × Reaches image from entry

-- what is reached from some entries is added, and no function of it has a fault
pub record IsWalked (image : Image) (old new : List ℕ) : Type 0 where
  pub only : (entry : ℕ) → Contains new entry → IsReachedFrom image old entry
  pub all : (entry : ℕ) → Contains new entry → IsSoundAlone image new entry

-- each function ends where the next one begins, or before
abbrev pub AreApart : Image → (entries : List ℕ) → Type 0
AreApart image entries = (one other size : ℕ) → one < other → other < length entries → size_at image (get_or entries one 0) ≡ Some size
    → get_or entries one 0 + size ≤ get_or entries other 0

-- listed functions reach these, of which none reaches a fault, and with each all that it reaches is there
pub record AreSoundOf (image : Image) (list : List (List ℕ)) (entries : List ℕ) : Type 0 where
  pub are_sound : AreSound image entries
  pub only : (entry : ℕ) → Contains entries entry → IsReached image list entry
