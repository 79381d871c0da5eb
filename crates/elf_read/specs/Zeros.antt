-- The 0 bytes of a string table.
use Rattle.std.specs.Prelude.{◌≡◌, ◌≢◌, ◌≤◌, ◌<◌, ℕ, List, length, slice_index, Contains}
use Rattle.elf_read.specs.Offsets.{IsRising}

-- the offsets of all 0 bytes, in order
pub record AreZeros (strings zeros : List ℕ) : Type 0 where
  pub rising : IsRising zeros
  pub inside : (k : ℕ) → k < length zeros → slice_index zeros k < length strings
  pub zero : (k : ℕ) → k < length zeros → slice_index strings (slice_index zeros k) ≡ 0
  pub all : (place : ℕ) → place < length strings → slice_index strings place ≡ 0 → Contains zeros place

-- the first 0 byte from an offset on
pub record IsNextZero (strings : List ℕ) (from place : ℕ) : Type 0 where
  pub from_there : from ≤ place
  pub inside : place < length strings
  pub zero : slice_index strings place ≡ 0
  pub first : (k : ℕ) → from ≤ k → k < place → slice_index strings k ≢ 0

abbrev pub HasNoZero : List ℕ → (from : ℕ) → Type 0
HasNoZero strings from = (k : ℕ) → from ≤ k → k < length strings → slice_index strings k ≢ 0
