-- The fixed segments of an image in the order of their addresses.
use Rattle.std.specs.Prelude.{◌≡◌, ◌+◌, ◌^◌, ◌<◌, ◌≤◌, ℕ, Bool, true, not, ◌==◌, ◌&&◌, List, length, map, All, AllPairs}
use Rattle.elf_read_spec.specs.Image.{fixed_among, is_fixed}
use Rattle.elf_read.specs.declared.parts.Segment.{Segment}
use Rattle.elf_read.specs.Values.{segment_of}

-- a segment has bytes, and nothing may write them
abbrev pub has_fixed_bytes : Segment → Bool
has_fixed_bytes s = is_fixed (segment_of s) && not (length s.bytes.now == 0)

-- these segments are fixed, have bytes below 2^32, and come one after the other in memory
pub record AreInOrder (fixed : List Segment) : Type 0 where
  pub rising : AllPairs (λ x y. x.vaddr + length x.bytes.now ≤ y.vaddr) fixed
  pub full : All (λ s. 0 < length s.bytes.now) fixed
  pub in_space : All (λ s. s.vaddr + length s.bytes.now ≤ 2 ^ 32) fixed
  pub unwritable : All (λ s. is_fixed (segment_of s) ≡ true) fixed

-- they hold the fixed bytes of an image's segments
pub record AreFixed (segments fixed : List Segment) : Type 0 where
  pub in_order : AreInOrder fixed
  pub same : (address : ℕ) → fixed_among (map segment_of segments) address ≡ fixed_among (map segment_of fixed) address
