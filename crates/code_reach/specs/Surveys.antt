-- The functions that are reached: what each calls, its faults, and which of several faults is the first.
use Rattle.std.specs.Prelude.{◌≡◌, ◌↔◌, ◌<◌, ◌==◌, ◌&&◌, ◌||◌, nat_lt, ℕ, Bool, if◌then◌else◌, List, length, Contains, All, slice_index, Option, Some, None, IsSome, MatchOption}
use Rattle.elf_read_spec.specs.Image.{Image, size_at}
use Rattle.code_reach_spec.specs.declared.CodeKind.{CodeKind}
use Rattle.code_reach_spec.specs.declared.CodeKind.TheVariants.{Overlap}
use Rattle.code_reach_spec.specs.Code.{CallsOn, Reaches}
use Rattle.code_reach_spec.specs.Faults.{IsFunctionFault, RangesMeet, IsFirst, rank}
use Rattle.code_reach.specs.Flows.{callee_at, fault_among}
use Rattle.code_reach.specs.declared.faults.CodeFault.{CodeFault}

-- ---- calls

-- the instruction at an address of a function calls an entry, or ends it by a jump to one out of the range
pub record CallsFrom (image : Image) (entry size address target : ℕ) : Type 0 where
  pub callee_is : callee_at image entry size address ≡ Some target
  pub entry_there : IsSome (size_at image target)

-- the function at one entry calls that at the other
pub record CallsOut (image : Image) (entry target : ℕ) : Type 0 where
  pub size : ℕ
  pub size_is : size_at image entry ≡ Some size
  pub calls : CallsOn image entry size target

-- ---- faults

-- the function at an entry has this fault
pub record HasFault (image : Image) (entry : ℕ) (kind : CodeKind) (address : ℕ) : Type 0 where
  pub size : ℕ
  pub size_is : size_at image entry ≡ Some size
  pub fault : IsFunctionFault image entry size kind address

-- a function that is reached has this fault
pub record AnyHasFault (image : Image) (entry : ℕ) (kind : CodeKind) (address : ℕ) : Type 0 where
  pub other : ℕ
  pub reached : Reaches image entry other
  pub has : HasFault image other kind address

-- no instruction at these addresses is wrong, where these are the targets that are reached
abbrev pub AreSound : Image → (entry size : ℕ) → (targets addresses : List ℕ) → Type 0
AreSound image entry size targets addresses =
    (k : ℕ) → k < length addresses → fault_among image entry size targets (slice_index addresses k) ≡ None

-- none, or the first of the faults
abbrev pub IsFirstOf : (CodeKind → (address : ℕ) → Type 0) → Option CodeFault → Type 0
IsFirstOf IsFault found = MatchOption found ((kind : CodeKind) (address : ℕ) → IsFault kind address → ⊥) (λ fault. IsFirst IsFault fault.kind fault.address)

-- a lower address, or the same and a lower kind
abbrev pub is_before : CodeFault → CodeFault → Bool
is_before fault other = nat_lt fault.address other.address || ((fault.address == other.address) && nat_lt (rank fault.kind) (rank other.kind))

-- the first of at most two faults
abbrev pub earlier : Option CodeFault → Option CodeFault → Option CodeFault
earlier None other = other
earlier (Some fault) None = Some fault
earlier (Some fault) (Some other) = if is_before other fault then Some other else Some fault

-- ---- what is reached

-- these are the entries that are reached, and each has a size
pub record AreEntries (image : Image) (entry : ℕ) (entries : List ℕ) : Type 0 where
  pub exactly : (other : ℕ) → Contains entries other ↔ Reaches image entry other
  pub sized : All (λ other. IsSome (size_at image other)) entries

-- the range of the entry at a place meets that of one before it
pub record OverlapsAt (image : Image) (entries : List ℕ) (index : ℕ) : Type 0 where
  pub before : ℕ
  pub below : before < index
  pub size : ℕ
  pub size_is : size_at image (slice_index entries before) ≡ Some size
  pub own_size : ℕ
  pub own_size_is : size_at image (slice_index entries index) ≡ Some own_size
  pub meet : RangesMeet (slice_index entries before) size (slice_index entries index) own_size

-- an entry has this fault: its range meets that of one before it
pub record IsOverlap (image : Image) (entries : List ℕ) (kind : CodeKind) (address : ℕ) : Type 0 where
  pub kind_is : kind ≡ Overlap
  pub index : ℕ
  pub among : index < length entries
  pub entry_is : address ≡ slice_index entries index
  pub overlaps : OverlapsAt image entries index
