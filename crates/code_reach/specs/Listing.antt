-- The words at some addresses, and where they stop.
use Rattle.std.specs.Prelude.{◌≡◌, ◌<◌, ℕ, List, length, map, All, slice_index, Some, None}
use Rattle.elf_read_spec.specs.Image.{Image}
use Rattle.code_reach_spec.specs.declared.CodeKind.{CodeKind}
use Rattle.code_reach_spec.specs.Code.{word_at}
use Rattle.code_reach.specs.Flows.{fault_among}
use Rattle.attempt.specs.declared.refusal.Refusal.{Refusal}
use Rattle.attempt.specs.declared.refusal.Refusal.TheVariants.{Fault, NoMemory}
use Rattle.code_reach.specs.declared.faults.CodeFault.{CodeFault}

-- no instruction at these addresses is wrong, where these are the targets that are reached, and these are the addresses with their words
pub record AreWords (image : Image) (entry size : ℕ) (targets addresses : List ℕ) (words : List (ℕ × ℕ)) : Type 0 where
  pub sound : (k : ℕ) → k < length addresses → fault_among image entry size targets (slice_index addresses k) ≡ None
  pub places : map (λ w. w.0) words ≡ addresses
  pub words_are : All (λ w. word_at image w.0 ≡ Some w.1) words

-- the first of the addresses at which an instruction is wrong
pub record IsStop (image : Image) (entry size : ℕ) (targets addresses : List ℕ) (kind : CodeKind) (address : ℕ) : Type 0 where
  pub index : ℕ
  pub among : index < length addresses
  pub address_is : address ≡ slice_index addresses index
  pub fault : fault_among image entry size targets address ≡ Some kind
  pub before : (k : ℕ) → k < index → fault_among image entry size targets (slice_index addresses k) ≡ None

abbrev pub IsListingError : Image → (entry size : ℕ) → (targets addresses : List ℕ) → Refusal CodeFault → Type 0
IsListingError image entry size targets addresses (Fault fault) = IsStop image entry size targets addresses fault.kind fault.address
IsListingError image entry size targets addresses NoMemory = Unit {0}

-- what is wrong with the instruction at an address; out of memory may come at any time
abbrev pub IsWordError : Image → (entry size : ℕ) → (targets : List ℕ) → (address : ℕ) → Refusal CodeFault → Type 0
IsWordError image entry size targets address (Fault fault) = (fault_among image entry size targets address ≡ Some fault.kind) × (fault.address ≡ address)
IsWordError image entry size targets address NoMemory = Unit {0}
