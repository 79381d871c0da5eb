-- Lists that grow as a walk goes on.
use Rattle.std.specs.Prelude.{◌≡◌, ◌↔◌, ◌+◌, ◌%◌, ◌^◌, ◌<◌, ◌≤◌, ℕ, List, ◌++◌, slice_index, Contains, Some}
use Rattle.elf_read_spec.specs.Image.{Image}
use Rattle.code_reach_spec.specs.Code.{Flow, InRange, nexts_of, flow_at, IsReachable}
use Rattle.code_reach_spec.specs.Faults.{targets_of, IsTarget}

-- after the items of the old list come items that have the property, and whatever has it is in the new list
pub record Grows (P : ℕ → Type 0) (old new : List ℕ) : Type 0 where
  pub more : List ℕ
  pub grown : new ≡ old ++ more
  pub all : (t : ℕ) → P t → Contains new t
  pub only : (t : ℕ) → Contains more t → P t

-- one of the first so many of the items is related to it
pub record FromFirst (P : ℕ → ℕ → Type 0) (items : List ℕ) (count target : ℕ) : Type 0 where
  pub index : ℕ
  pub below : index < count
  pub there : P (slice_index items index) target

-- among these, and inside the range
pub record IsInside (entry size : ℕ) (targets : List ℕ) (target : ℕ) : Type 0 where
  pub among : Contains targets target
  pub inside : InRange entry size target

-- control goes from an address of the function at an entry to another one, inside the range
pub record GoesTo (image : Image) (entry size address target : ℕ) : Type 0 where
  pub flow : Flow
  pub flow_is : flow_at image entry address ≡ Some flow
  pub next : IsInside entry size (nexts_of address flow) target

-- the instruction at an address of the function at an entry has the target
pub record HasTarget (image : Image) (entry address target : ℕ) : Type 0 where
  pub flow : Flow
  pub flow_is : flow_at image entry address ≡ Some flow
  pub among : Contains (targets_of flow) target

-- a whole aligned word of the range
pub record IsPlace (entry size address : ℕ) : Type 0 where
  pub inside : InRange entry size address
  pub aligned_there : address % 4 ≡ 0
  pub whole : address + 4 ≤ 2 ^ 32

-- these are the addresses that are reached, in any order
abbrev pub AreAllReachable : Image → (entry size : ℕ) → List ℕ → Type 0
AreAllReachable image entry size places = (address : ℕ) → Contains places address ↔ IsReachable image entry size address

-- these are the targets of the instructions that are reached
abbrev pub AreTargets : Image → (entry size : ℕ) → List ℕ → Type 0
AreTargets image entry size targets = (target : ℕ) → Contains targets target ↔ IsTarget image entry size target
