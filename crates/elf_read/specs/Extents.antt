-- The extents of the runs of fixed bytes.
use Rattle.std.specs.Prelude.{◌≡◌, ◌+◌, ◌-◌, ◌<◌, ◌≤◌, ℕ, List, length, slice_index_or, All, AllPairs}
use Rattle.elf_read.specs.declared.parts.Segment.{Segment}
use Rattle.elf_read.specs.declared.parts.Extent.{Extent}
use Rattle.elf_read.specs.Values.{segment_of}
use Rattle.elf_read.specs.Separate.{Covers}

-- an address of an extent
pub record IsInside (extent : Extent) (address : ℕ) : Type 0 where
  pub from : extent.first ≤ address
  pub to : address ≤ extent.last

-- an address of one of several extents, or of the bytes of one of several segments
abbrev pub IsIn : List Extent → ℕ → Type 0
IsIn extents address = (k : ℕ) × (k < length extents) × ((d : Extent) → IsInside (slice_index_or extents k d) address)

abbrev pub IsCovered : List Segment → ℕ → Type 0
IsCovered segments address = (k : ℕ) × (k < length segments) × ((d : Segment) → Covers (segment_of (slice_index_or segments k d)) address)

-- the extents have the addresses of the segments' bytes, and lie apart, with a gap between each two
pub record AreExtents (segments : List Segment) (extents : List Extent) : Type 0 where
  pub ordered : All (λ e. e.first ≤ e.last) extents
  pub gaps : AllPairs (λ x y. x.last + 1 < y.first) extents
  pub covered : (address : ℕ) → IsIn extents address → IsCovered segments address
  pub every : (address : ℕ) → IsCovered segments address → IsIn extents address

-- the last of several extents ends directly before an address
abbrev pub EndsBefore : List Extent → ℕ → Type 0
EndsBefore extents first =
    (0 < length extents) × ((d : Extent) → (slice_index_or extents (length extents - 1) d).last + 1 ≡ first)
