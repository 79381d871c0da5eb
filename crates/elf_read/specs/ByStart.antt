-- Program headers by the starts of their memories.
use Rattle.std.specs.Prelude.{◌≡◌, ◌+◌, ◌<◌, ◌≤◌, ℕ, List, Some, length}
use Rattle.std.specs.Ordering.{nat_cmp}
use Rattle.std.specs.BTreeMap.{BTreeMap, get}
use Rattle.elf_read_spec.specs.declared.fields.TheConstants.{P_VADDR, P_MEMSZ, PHDR_SIZE}
use Rattle.elf_read_spec.specs.File.{u32_at, AreApart}

-- a program header whose memory begins at an address and isn't empty
pub record BeginsAt (bytes : List ℕ) (start at : ℕ) : Type 0 where
  pub inside : at + PHDR_SIZE ≤ length bytes
  pub begins : u32_at bytes (at + P_VADDR) ≡ start
  pub full : 0 < u32_at bytes (at + P_MEMSZ)

-- the memories of these headers, each by its start, aren't empty and lie apart
pub record AreByStart (bytes : List ℕ) (headers : BTreeMap ℕ ℕ) : Type 0 where
  pub each : (start at : ℕ) → get nat_cmp headers start ≡ Some at → BeginsAt bytes start at
  pub apart : (one other first second : ℕ) → one < other → get nat_cmp headers one ≡ Some first
      → get nat_cmp headers other ≡ Some second → AreApart bytes first second
