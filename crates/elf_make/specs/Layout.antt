-- The layout of an executable: the ELF header, the program headers, the bytes of the segments, the symbol table,
-- the string table, 0 bytes up to a multiple of 4, and three section headers. (System V ABI, chapters 4 and 5.)
use Rattle.std.specs.Prelude.{ℕ, ◌+◌, ◌-◌, ◌*◌, ◌%◌, List, [], ◌∷◌, ◌++◌, length, flat_map, replicate}
use Rattle.byteorder.specs.Endian.{little_bytes}
use Rattle.elf_read_spec.specs.declared.fields.TheConstants.{EHDR_SIZE, PHDR_SIZE, SHDR_SIZE, SYM_SIZE, ELFCLASS32, ELFDATA2LSB, EV_CURRENT, ET_EXEC, EM_RISCV, PT_LOAD, SHT_SYMTAB, SHT_STRTAB}
use Rattle.elf_read_spec.specs.Image.{Image, Segment, Symbol}

-- a number of two or four bytes
unfoldable pub half : ℕ → List ℕ
half n = little_bytes 2 n

unfoldable pub word : ℕ → List ℕ
word n = little_bytes 4 n

-- e_ident: a 32-bit little-endian file of version 1
unfoldable pub ident : List ℕ
ident = 0x7f ∷ 0x45 ∷ 0x4c ∷ 0x46 ∷ ELFCLASS32 ∷ ELFDATA2LSB ∷ EV_CURRENT ∷ 0 ∷ 0 ∷ 0 ∷ 0 ∷ 0 ∷ 0 ∷ 0 ∷ 0 ∷ 0 ∷ []

-- the section header of no section
unfoldable pub no_section : List ℕ
no_section = replicate SHDR_SIZE 0

-- the ELF header of a file with so many program headers, section headers at an offset, and these flags
abbrev pub header : (programs sections flags : ℕ) → List ℕ
header programs sections flags =
    ident ++ half ET_EXEC ++ half EM_RISCV ++ word EV_CURRENT ++ word 0 ++ word EHDR_SIZE ++ word sections ++ word flags
    ++ half EHDR_SIZE ++ half PHDR_SIZE ++ half programs ++ half SHDR_SIZE ++ half 3 ++ half 0

-- the PT_LOAD header of a segment whose bytes are at an offset
abbrev pub program_header : (offset : ℕ) → Segment → List ℕ
program_header offset s =
    word PT_LOAD ++ word offset ++ word s.vaddr ++ word s.vaddr ++ word (length s.bytes) ++ word s.memsz ++ word s.flags ++ word 4

abbrev pub program_headers : (offset : ℕ) → List Segment → List ℕ
program_headers offset [] = []
program_headers offset (s ∷ segments) = program_header offset s ++ program_headers (offset + length s.bytes) segments

-- the segments' bytes, one after the other
abbrev pub contents : List Segment → List ℕ
contents segments = flat_map (λ s. s.bytes) segments

-- the entry of a symbol whose name is at an offset of the string table: global, of its type, in section 1
abbrev pub entry : (place : ℕ) → Symbol → List ℕ
entry place s = word place ++ word s.value ++ word s.size ++ (16 + s.kind) ∷ 0 ∷ [] ++ half 1

abbrev pub symbol_entries : (place : ℕ) → List Symbol → List ℕ
symbol_entries place [] = []
symbol_entries place (s ∷ symbols) = entry place s ++ symbol_entries (place + length s.name + 1) symbols

-- the names, each with a 0 byte after it; the empty name comes before them
abbrev pub names : List Symbol → List ℕ
names [] = []
names (s ∷ symbols) = s.name ++ 0 ∷ names symbols

-- 0 bytes from a length up to a multiple of 4
abbrev pub padding : ℕ → List ℕ
padding long = replicate (3 - (long + 3) % 4) 0

-- the section headers of the symbol table, whose strings are section 2, and of the string table
abbrev pub table_section : (offset size : ℕ) → List ℕ
table_section offset size =
    word 0 ++ word SHT_SYMTAB ++ word 0 ++ word 0 ++ word offset ++ word size ++ word 2 ++ word 1 ++ word 4 ++ word SYM_SIZE

abbrev pub strings_section : (offset size : ℕ) → List ℕ
strings_section offset size =
    word 0 ++ word SHT_STRTAB ++ word 0 ++ word 0 ++ word offset ++ word size ++ word 0 ++ word 0 ++ word 1 ++ word 0

-- the three section headers
abbrev pub section_headers : (table table_size strings strings_size : ℕ) → List ℕ
section_headers table table_size strings strings_size =
    no_section ++ table_section table table_size ++ strings_section strings strings_size

-- the offsets of the parts of the file
abbrev pub contents_at : Image → ℕ
contents_at image = EHDR_SIZE + PHDR_SIZE * length image.segments

abbrev pub table_at : Image → ℕ
table_at image = contents_at image + length (contents image.segments)

abbrev pub table_size : Image → ℕ
table_size image = SYM_SIZE + SYM_SIZE * length image.symbols

abbrev pub strings_at : Image → ℕ
strings_at image = table_at image + table_size image

abbrev pub strings_size : Image → ℕ
strings_size image = 1 + length (names image.symbols)

abbrev pub strings_end : Image → ℕ
strings_end image = strings_at image + strings_size image

abbrev pub sections_at : Image → ℕ
sections_at image = strings_end image + length (padding (strings_end image))

-- the file
unfoldable pub file_of : Image → (flags : ℕ) → List ℕ
file_of image flags =
    header (length image.segments) (sections_at image) flags
    ++ program_headers (contents_at image) image.segments
    ++ contents image.segments
    ++ replicate SYM_SIZE 0
    ++ symbol_entries 1 image.symbols
    ++ 0 ∷ names image.symbols
    ++ padding (strings_end image)
    ++ section_headers (table_at image) (table_size image) (strings_at image) (strings_size image)
