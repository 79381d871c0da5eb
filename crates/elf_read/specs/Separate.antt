-- Segments that share no address.
use Rattle.std.specs.Prelude.{◌+◌, ◌^◌, ◌≤◌, ℕ, List, length, All, AllPairs}
use Rattle.memory_spec.specs.Zones.{Zone, InZone, AreDisjoint, zone_from}
use Rattle.elf_read_spec.specs.Image.{Segment}

-- the addresses of the bytes of a segment
abbrev pub bytes_zone : Segment → Zone
bytes_zone segment = zone_from segment.vaddr (length segment.bytes)

abbrev pub Covers : Segment → (address : ℕ) → Type 0
Covers segment address = InZone (bytes_zone segment) address

-- the bytes of two segments share no address
abbrev pub IsApart : (one other : Segment) → Type 0
IsApart one other = AreDisjoint (bytes_zone one) (bytes_zone other)

-- the bytes of segments share no address, and lie below 2^32
pub record AreSeparate (segments : List Segment) : Type 0 where
  pub pairs : AllPairs IsApart segments
  pub in_space : All (λ s. s.vaddr + length s.bytes ≤ 2 ^ 32) segments
