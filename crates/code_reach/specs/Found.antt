-- What the calls answer.
use Rattle.std.specs.Prelude.{◌≡◌, ◌↔◌, ℕ, List, map, All, Contains, Option, Some, None}
use Rattle.std.specs.List.Sorted.{IsStrictlyIncreasing}
use Rattle.elf_read_spec.specs.Image.{Image, size_at}
use Rattle.code_reach_spec.specs.declared.CodeKind.{CodeKind}
use Rattle.code_reach_spec.specs.Code.{AreReachable, Reaches, IsStack, IsCyclic}
use Rattle.code_reach_spec.specs.Code.{word_at}
use Rattle.code_reach_spec.specs.Faults.{IsFunctionFault, HasNoFault, IsReachFault, ReachesNoFault, IsFirst}
use Rattle.attempt.specs.declared.refusal.Refusal.{Refusal}
use Rattle.attempt.specs.declared.refusal.Refusal.TheVariants.{Fault, NoMemory}
use Rattle.code_reach.specs.declared.faults.CodeFault.{CodeFault}

-- the function at an entry has no fault, and these are the addresses that it reaches, ascending, each with its word
pub record IsCode (image : Image) (entry : ℕ) (words : List (ℕ × ℕ)) : Type 0 where
  pub size : ℕ
  pub size_is : size_at image entry ≡ Some size
  pub sound : HasNoFault image entry size
  pub places : AreReachable image entry size (map (λ w. w.0) words)
  pub words_are : All (λ w. word_at image w.0 ≡ Some w.1) words

-- the first fault of the function at an entry
pub record IsFirstFault (image : Image) (entry : ℕ) (kind : CodeKind) (address : ℕ) : Type 0 where
  pub size : ℕ
  pub size_is : size_at image entry ≡ Some size
  pub first : IsFirst (IsFunctionFault image entry size) kind address

-- the function at an entry has this error; out of memory may come at any time
abbrev pub IsCodeError : Image → (entry : ℕ) → Refusal CodeFault → Type 0
IsCodeError image entry (Fault fault) = IsFirstFault image entry fault.kind fault.address
IsCodeError image entry NoMemory = Unit {0}

-- no function that is reached has a fault, and these are the entries of those that are reached, ascending
pub record IsReach (image : Image) (entry : ℕ) (entries : List ℕ) : Type 0 where
  pub sound : ReachesNoFault image entry
  pub rising : IsStrictlyIncreasing entries
  pub exactly : (other : ℕ) → Contains entries other ↔ Reaches image entry other

-- what is reached from the entry has this error; out of memory may come at any time
abbrev pub IsReachError : Image → (entry : ℕ) → Refusal CodeFault → Type 0
IsReachError image entry (Fault fault) = IsFirst (IsReachFault image entry) fault.kind fault.address
IsReachError image entry NoMemory = Unit {0}

-- the stack of the function at an entry; none where a cycle is reached
abbrev pub IsDepth : Image → (entry : ℕ) → Option ℕ → Type 0
IsDepth image entry None = IsCyclic image entry
IsDepth image entry (Some stack) = IsStack image entry stack
