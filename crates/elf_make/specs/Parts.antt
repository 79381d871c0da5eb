-- Which parts can be written, and what was written.
use Rattle.std.specs.Prelude.{◌≡◌, ◌+◌, ◌-◌, ◌*◌, ◌^◌, ◌%◌, ◌<◌, ◌≤◌, ℕ, List, length, map, All, AllPairs, Contains}
use Rattle.memory_spec.specs.Zones.{Zone, AreDisjoint, zone_from}
use Rattle.elf_read_spec.specs.Image.{Image, Segment, Symbol}
use Rattle.elf_read_spec.specs.File.{IsElf, u32_at}
use Rattle.elf_read_spec.specs.declared.fields.TheConstants.{E_FLAGS, SHDR_SIZE}
use Rattle.elf_read.specs.Values.{segment_of, symbol_of}
use Rattle.elf_make.specs.declared.parts.Parts.{Parts}
use Rattle.elf_make.specs.declared.writer.Places.{Places}
use Rattle.elf_make.specs.Layout.{contents_at, table_at, table_size, strings_at, strings_size, strings_end, sections_at}

-- the image that the parts are of
abbrev pub image_of_parts : Parts → Image
image_of_parts parts = record { segments = map segment_of parts.segments.now; symbols = map symbol_of parts.symbols.now }

-- the memory of a segment
abbrev pub memory_of : Segment → Zone
memory_of segment = zone_from segment.vaddr segment.memsz

-- the memories of two segments share no address
abbrev pub AreApart : (one other : Segment) → Type 0
AreApart one other = AreDisjoint (memory_of one) (memory_of other)

-- the segment has no more bytes than memory, and its memory lies below 2^32
pub record IsPlaced (segment : Segment) : Type 0 where
  pub sizes : length segment.bytes ≤ segment.memsz
  pub in_space : segment.vaddr + segment.memsz ≤ 2 ^ 32

-- the name has no 0 byte, and the type has four bits
pub record IsNamed (symbol : Symbol) : Type 0 where
  pub no_zero : Contains symbol.name 0 → ⊥
  pub kind : symbol.kind < 16

-- the numbers of a segment and of a symbol have four bytes
pub record IsSegmentOfWords (segment : Segment) : Type 0 where
  pub vaddr : segment.vaddr < 2 ^ 32
  pub memsz : segment.memsz < 2 ^ 32
  pub flags : segment.flags < 2 ^ 32

pub record IsSymbolOfWords (symbol : Symbol) : Type 0 where
  pub value : symbol.value < 2 ^ 32
  pub size : symbol.size < 2 ^ 32

-- the parts break no rule of executables, and the file is short enough for its offsets
pub record CanBeWritten (image : Image) (flags : ℕ) : Type 0 where
  pub plain : flags % 16 ≡ 0
  pub placed : All IsPlaced image.segments
  pub apart : AllPairs AreApart image.segments
  pub named : All IsNamed image.symbols
  pub few : length image.segments < 65535
  pub short : sections_at image + 3 * SHDR_SIZE < 2 ^ 32

-- how many program headers the file has, and where its parts are
pub record ArePlaces (image : Image) (places : Places) : Type 0 where
  pub programs_are : places.programs ≡ length image.segments
  pub contents_are : places.contents ≡ contents_at image
  pub table_is : places.table ≡ table_at image
  pub table_size_is : places.table_size ≡ table_size image
  pub strings_are : places.strings ≡ strings_at image
  pub strings_size_is : places.strings_size ≡ strings_size image
  pub padding_is : places.padding ≡ 3 - (strings_end image + 3) % 4
  pub sections_are : places.sections ≡ strings_end image + places.padding

-- the file is an executable with this image and these flags (e_flags)
pub record IsWritten (file : List ℕ) (image : Image) (flags : ℕ) : Type 0 where
  pub is_elf : IsElf file image
  pub flags_are : u32_at file E_FLAGS ≡ flags
