-- What is answered of the code of listed functions.
use Rattle.std.specs.Prelude.{◌≡◌, ◌⊎◌, ℕ, List, length, get_or, slice_get, Contains, Some}
use Rattle.elf_read_spec.specs.Image.{Image, function_named}
use Rattle.elf_read_spec.specs.declared.SymbolValues.TheVariants.{One}
use Rattle.code_reach_spec.specs.Code.{Reaches}
use Rattle.code_reach_spec.specs.Faults.{IsReachFault, ReachesNoFault, IsFirst}
use Rattle.pair_setup_spec.specs.Code.{HasCodeFault, HasSoundCode, IsFirstCodeFault}
use Rattle.pair_setup_spec.specs.Outcome.{IsReached}
use Rattle.attempt.specs.declared.refusal.Refusal.{Refusal}
use Rattle.attempt.specs.declared.refusal.Refusal.TheVariants.{Fault, NoMemory}
use Rattle.pair_setup.specs.declared.outcome.PairFault.{PairFault}
use Rattle.pair_setup.specs.declared.outcome.PairFault.TheVariants.{Refused, Code, Nodes}

-- ---- entries that were looked at

-- nothing that the function at the entry reaches has a fault, and all of it is among the entries
pub record IsSoundAt (image : Image) (entries : List ℕ) (entry : ℕ) : Type 0 where
  pub sound : ReachesNoFault image entry
  pub closed : (other : ℕ) → Reaches image entry other → Contains entries other

abbrev pub AreSound : Image → (entries : List ℕ) → Type 0
AreSound image entries = (entry : ℕ) → Contains entries entry → IsSoundAt image entries entry

-- the entries of what is reached from one are added, and nothing of it has a fault
pub record AddsSound (image : Image) (entry : ℕ) (old new : List ℕ) : Type 0 where
  pub sound : ReachesNoFault image entry
  pub are_sound : AreSound image new
  pub kept : (other : ℕ) → Contains old other → Contains new other
  pub only : (other : ℕ) → Contains new other → Contains old other ⊎ Reaches image entry other
  pub all : (other : ℕ) → Reaches image entry other → Contains new other

-- the same of the function of a name
pub record AddsNamed (image : Image) (name : List ℕ) (old new : List ℕ) (entry : ℕ) : Type 0 where
  pub entry_is : function_named image name ≡ One entry
  pub adds : AddsSound image entry old new

-- the code of functions that are listed, at these entries, has no fault, and all entries that they reach are there, but
-- no others than those that the whole list reaches
pub record AreCodedOf (image : Image) (whole list : List (List ℕ)) (firsts entries : List ℕ) : Type 0 where
  pub long : length firsts ≡ length list
  pub firsts_are : (index : ℕ) (name : List ℕ) → slice_get list index ≡ Some name → HasSoundCode image name (get_or firsts index 0)
  pub are_sound : AreSound image entries
  pub only : (entry : ℕ) → Contains entries entry → IsReached image whole entry
  pub all : (entry : ℕ) → IsReached image list entry → Contains entries entry

-- the code of the listed functions has no fault, and these are all entries that they reach
abbrev pub AreCoded : Image → (list : List (List ℕ)) → (firsts entries : List ℕ) → Type 0
AreCoded image list firsts entries = AreCodedOf image list list firsts entries

-- ---- faults

-- the first fault of what is reached from the entry, which is that of the function at an index of the list
abbrev pub IsReachErrorAt : Image → (entry index : ℕ) → Refusal PairFault → Type 0
IsReachErrorAt image entry index (Fault (Code fault at)) = (at ≡ index) × IsFirst (IsReachFault image entry) fault.kind fault.address
IsReachErrorAt image entry index (Fault (Refused kind named)) = ⊥
IsReachErrorAt image entry index (Fault Nodes) = ⊥
IsReachErrorAt image entry index NoMemory = Unit {0}

-- the code of the function at an index of the list has this fault; out of memory may come at any time
abbrev pub IsCodeErrorAt : Image → (name : List ℕ) → (index : ℕ) → Refusal PairFault → Type 0
IsCodeErrorAt image name index (Fault (Code fault at)) = (at ≡ index) × HasCodeFault image name fault.kind fault.address
IsCodeErrorAt image name index (Fault (Refused kind named)) = ⊥
IsCodeErrorAt image name index (Fault Nodes) = ⊥
IsCodeErrorAt image name index NoMemory = Unit {0}

-- it is that of the first listed function with one
abbrev pub IsFirstCodeError : Image → (list : List (List ℕ)) → Refusal PairFault → Type 0
IsFirstCodeError image list (Fault (Code fault index)) = (name : List ℕ) × (slice_get list index ≡ Some name) × IsFirstCodeFault image list fault.kind name fault.address
IsFirstCodeError image list (Fault (Refused kind named)) = ⊥
IsFirstCodeError image list (Fault Nodes) = ⊥
IsFirstCodeError image list NoMemory = Unit {0}
