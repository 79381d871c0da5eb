-- Which bytes are an executable, and its image; and why, and where, other bytes are refused. Everything is said
-- of offsets in the whole file. (System V ABI, chapters 4 and 5; RISC-V psABI, ELF object files.)
use Rattle.std.specs.Prelude.{◌≡◌, ◌+◌, ◌*◌, ◌^◌, ◌%◌, ◌/◌, ◌<◌, ◌≤◌, ◌==◌, not, if◌then◌else◌, ℕ, zero, suc, List, [], ◌∷◌, length, take, drop, map, filter, find, slice_index, Contains, Option, Some, None, IsSome}
use Rattle.std.specs.List.{before_first}
use Rattle.byteorder.specs.Endian.{little_number}
use Rattle.elf_read_spec.specs.declared.ElfKind.{ElfKind}
use Rattle.elf_read_spec.specs.declared.ElfKind.TheVariants.{Short, Magic, Class, Endian, Version, Kind, Machine, Flags, HeaderSize, Table, SegmentRange, SegmentOverlap, NoSymbols, SymbolTable, StringTable}
use Rattle.elf_read_spec.specs.declared.fields.TheConstants.{EHDR_SIZE, PHDR_SIZE, SHDR_SIZE, SYM_SIZE, EI_CLASS, EI_DATA, EI_VERSION, E_TYPE, E_MACHINE, E_VERSION, E_PHOFF, E_SHOFF, E_FLAGS, E_EHSIZE, E_PHENTSIZE, E_PHNUM, E_SHENTSIZE, E_SHNUM}
use Rattle.elf_read_spec.specs.declared.fields.TheConstants.{P_OFFSET, P_VADDR, P_FILESZ, P_MEMSZ, P_FLAGS, SH_TYPE, SH_OFFSET, SH_SIZE, SH_LINK, SH_ENTSIZE, ST_VALUE, ST_SIZE, ST_INFO, ST_SHNDX}
use Rattle.elf_read_spec.specs.declared.fields.TheConstants.{ELFMAG, ELFCLASS32, ELFDATA2LSB, EV_CURRENT, ET_EXEC, EM_RISCV, PT_LOAD, SHT_SYMTAB, SHT_STRTAB, SHN_UNDEF}
use Rattle.memory_spec.specs.Zones.{Zone, zone_from, AreDisjoint}
use Rattle.elf_read_spec.specs.Image.{Segment, Symbol, Image}

-- the numbers of one, two and four bytes at an offset, little-endian (System V ABI, data representation)
abbrev pub u8_at : List ℕ → ℕ → ℕ
u8_at bytes at = slice_index bytes at

unfoldable pub u16_at : List ℕ → ℕ → ℕ
u16_at bytes at = little_number 2 (drop at bytes)

unfoldable pub u32_at : List ℕ → ℕ → ℕ
u32_at bytes at = little_number 4 (drop at bytes)

-- the offsets of the entries of a table: as many as `count`, `size` bytes each
abbrev pub entries : (from size count : ℕ) → List ℕ
entries from size zero = []
entries from size (suc count) = from ∷ entries (from + size) size count

-- the program headers: e_phnum from e_phoff on
abbrev pub program_headers : List ℕ → List ℕ
program_headers bytes = entries (u32_at bytes E_PHOFF) PHDR_SIZE (u16_at bytes E_PHNUM)

-- the section headers: e_shnum from e_shoff on
abbrev pub section_headers : List ℕ → List ℕ
section_headers bytes = entries (u32_at bytes E_SHOFF) SHDR_SIZE (u16_at bytes E_SHNUM)

-- where the program headers end, and the section headers
abbrev pub programs_end : List ℕ → ℕ
programs_end bytes = u32_at bytes E_PHOFF + PHDR_SIZE * u16_at bytes E_PHNUM

abbrev pub sections_end : List ℕ → ℕ
sections_end bytes = u32_at bytes E_SHOFF + SHDR_SIZE * u16_at bytes E_SHNUM

-- the program headers whose p_type is PT_LOAD
abbrev pub loads : List ℕ → List ℕ
loads bytes = filter (λ at. u32_at bytes at == PT_LOAD) (program_headers bytes)

-- the bytes of a PT_LOAD header (p_filesz from p_offset on) are no more than its memory (p_memsz from p_vaddr
-- on), lie in the file, and its memory lies below 2^32
pub record IsPlaced (bytes : List ℕ) (at : ℕ) : Type 0 where
  pub sizes : u32_at bytes (at + P_FILESZ) ≤ u32_at bytes (at + P_MEMSZ)
  pub in_file : 0 < u32_at bytes (at + P_FILESZ) → u32_at bytes (at + P_OFFSET) + u32_at bytes (at + P_FILESZ) ≤ length bytes
  pub in_space : u32_at bytes (at + P_VADDR) + u32_at bytes (at + P_MEMSZ) ≤ 2 ^ 32

-- the memory of a program header
abbrev pub memory_of : List ℕ → (at : ℕ) → Zone
memory_of bytes at = zone_from (u32_at bytes (at + P_VADDR)) (u32_at bytes (at + P_MEMSZ))

-- the memories of two program headers share no address
abbrev pub AreApart : List ℕ → (first second : ℕ) → Type 0
AreApart bytes first second = AreDisjoint (memory_of bytes first) (memory_of bytes second)

-- the header of the symbol table: of the first section whose sh_type is SHT_SYMTAB
unfoldable pub symbol_table : List ℕ → Option ℕ
symbol_table bytes = find (λ at. u32_at bytes (at + SH_TYPE) == SHT_SYMTAB) (section_headers bytes)

-- the symbol table has entries of 16 bytes, ends with one, and lies in the file (sh_entsize, sh_size, sh_offset)
pub record IsTable (bytes : List ℕ) (table : ℕ) : Type 0 where
  pub entry_size : u32_at bytes (table + SH_ENTSIZE) ≡ SYM_SIZE
  pub whole : u32_at bytes (table + SH_SIZE) % SYM_SIZE ≡ 0
  pub in_file : u32_at bytes (table + SH_OFFSET) + u32_at bytes (table + SH_SIZE) ≤ length bytes

-- the header of the section that sh_link of the symbol table names: its string table
abbrev pub string_table : List ℕ → (table : ℕ) → ℕ
string_table bytes table = u32_at bytes E_SHOFF + SHDR_SIZE * u32_at bytes (table + SH_LINK)

-- there is such a section, its sh_type is SHT_STRTAB, and it lies in the file
pub record HasStrings (bytes : List ℕ) (table : ℕ) : Type 0 where
  pub linked : u32_at bytes (table + SH_LINK) < u16_at bytes E_SHNUM
  pub strings : u32_at bytes (string_table bytes table + SH_TYPE) ≡ SHT_STRTAB
  pub in_file : u32_at bytes (string_table bytes table + SH_OFFSET) + u32_at bytes (string_table bytes table + SH_SIZE) ≤ length bytes

-- the entries of the symbol table, undefined ones and the first one too
abbrev pub symbols : List ℕ → (table : ℕ) → List ℕ
symbols bytes table = entries (u32_at bytes (table + SH_OFFSET)) SYM_SIZE (u32_at bytes (table + SH_SIZE) / SYM_SIZE)

-- the bytes of the string table
abbrev pub strings_of : List ℕ → (table : ℕ) → List ℕ
strings_of bytes table = take (u32_at bytes (string_table bytes table + SH_SIZE)) (drop (u32_at bytes (string_table bytes table + SH_OFFSET)) bytes)

-- a symbol has no name (st_name is 0), or its name is ended by a 0 byte inside the string table
abbrev pub IsEnded : List ℕ → (table at : ℕ) → Type 0
IsEnded bytes table at = 0 < u32_at bytes at → Contains (drop (u32_at bytes at) (strings_of bytes table)) 0

-- what the file keeps of each kind at an offset; where it doesn't, it has a fault of that kind at that offset
abbrev pub Keeps : List ℕ → ElfKind → (at : ℕ) → Type 0
Keeps bytes Short at = at ≡ length bytes → EHDR_SIZE ≤ length bytes
Keeps bytes Magic at = at < 4 → u8_at bytes at ≡ slice_index ELFMAG at
Keeps bytes Class at = at ≡ EI_CLASS → u8_at bytes EI_CLASS ≡ ELFCLASS32
Keeps bytes Endian at = at ≡ EI_DATA → u8_at bytes EI_DATA ≡ ELFDATA2LSB
Keeps bytes Version at = (at ≡ EI_VERSION → u8_at bytes EI_VERSION ≡ EV_CURRENT) × (at ≡ E_VERSION → u32_at bytes E_VERSION ≡ EV_CURRENT)
Keeps bytes Kind at = at ≡ E_TYPE → u16_at bytes E_TYPE ≡ ET_EXEC
Keeps bytes Machine at = at ≡ E_MACHINE → u16_at bytes E_MACHINE ≡ EM_RISCV
Keeps bytes Flags at = at ≡ E_FLAGS → u32_at bytes E_FLAGS % 16 ≡ 0
Keeps bytes HeaderSize at =
    (at ≡ E_EHSIZE → u16_at bytes E_EHSIZE ≡ EHDR_SIZE)
    × (at ≡ E_PHENTSIZE → 0 < u16_at bytes E_PHNUM → u16_at bytes E_PHENTSIZE ≡ PHDR_SIZE)
    × (at ≡ E_SHENTSIZE → 0 < u16_at bytes E_SHNUM → u16_at bytes E_SHENTSIZE ≡ SHDR_SIZE)
Keeps bytes Table at =
    (at ≡ E_PHOFF → programs_end bytes ≤ length bytes)
    × (at ≡ E_SHOFF → sections_end bytes ≤ length bytes)
Keeps bytes SegmentRange at = Contains (loads bytes) at → IsPlaced bytes at
Keeps bytes SegmentOverlap at =
    Contains (loads bytes) at → (earlier : ℕ) → Contains (loads bytes) earlier → earlier < at → AreApart bytes earlier at
Keeps bytes NoSymbols at = at ≡ E_SHOFF → IsSome (symbol_table bytes)
Keeps bytes SymbolTable at = symbol_table bytes ≡ Some at → IsTable bytes at
Keeps bytes StringTable at =
    (symbol_table bytes ≡ Some at → HasStrings bytes at)
    × ((table : ℕ) → symbol_table bytes ≡ Some table → HasStrings bytes table → Contains (symbols bytes table) at → IsEnded bytes table at)

-- the rank of each kind in the order in which they are tried
abbrev pub rank : ElfKind → ℕ
rank Short = 1
rank Magic = 2
rank Class = 3
rank Endian = 4
rank Version = 5
rank Kind = 6
rank Machine = 7
rank Flags = 8
rank HeaderSize = 9
rank Table = 10
rank SegmentRange = 11
rank SegmentOverlap = 12
rank NoSymbols = 13
rank SymbolTable = 14
rank StringTable = 15

-- the file is refused for this reason at this offset: for its first fault, first by kind, then by offset
pub record IsRefusedFile (bytes : List ℕ) (kind : ElfKind) (offset : ℕ) : Type 0 where
  pub fault : Keeps bytes kind offset → ⊥
  pub first : (earlier : ElfKind) → rank earlier < rank kind → (at : ℕ) → Keeps bytes earlier at
  pub lowest : (at : ℕ) → at < offset → Keeps bytes kind at

-- the segment of a PT_LOAD header
abbrev pub segment_at : List ℕ → ℕ → Segment
segment_at bytes at = record {
  vaddr = u32_at bytes (at + P_VADDR);
  memsz = u32_at bytes (at + P_MEMSZ);
  flags = u32_at bytes (at + P_FLAGS);
  bytes = take (u32_at bytes (at + P_FILESZ)) (drop (u32_at bytes (at + P_OFFSET)) bytes);
}

-- the name at a offset of a string table ends before the 0 byte; offset 0 is that of no name, which is empty
abbrev pub name_in : (strings : List ℕ) → (offset : ℕ) → List ℕ
name_in strings offset = if offset == 0 then [] else before_first (λ b. b == 0) (drop offset strings)

-- the symbol of an entry
abbrev pub symbol_at : List ℕ → (table at : ℕ) → Symbol
symbol_at bytes table at = record {
  name = name_in (strings_of bytes table) (u32_at bytes at);
  value = u32_at bytes (at + ST_VALUE);
  size = u32_at bytes (at + ST_SIZE);
  kind = u8_at bytes (at + ST_INFO) % 16;
}

-- the defined symbols of a symbol table: those whose st_shndx isn't SHN_UNDEF
abbrev pub defined_symbols : List ℕ → Option ℕ → List Symbol
defined_symbols bytes None = []
defined_symbols bytes (Some table) =
    map (symbol_at bytes table) (filter (λ at. not (u16_at bytes (at + ST_SHNDX) == SHN_UNDEF)) (symbols bytes table))

unfoldable pub image_of : List ℕ → Image
image_of bytes = record {
  segments = map (segment_at bytes) (loads bytes);
  symbols = defined_symbols bytes (symbol_table bytes);
}

-- the bytes are an executable, which has no fault, and this is its image
pub record IsElf (bytes : List ℕ) (image : Image) : Type 0 where
  pub accepted : (kind : ElfKind) (at : ℕ) → Keeps bytes kind at
  pub image_is : image ≡ image_of bytes
