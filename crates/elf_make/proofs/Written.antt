-- A written file is an executable, and its image is what was written.
use Rattle.std.proofs.Common.{◌≡◌, ◌==◌, ◌+◌, ◌*◌, ◌/◌, ◌%◌, ◌^◌, ◌<◌, ◌≤◌, ◌++◌, ◌∙◌, not, ℕ, zero, suc, Bool, true, false, List, [], ◌∷◌, All, Contains, Some, IsSome, length, get_or, slice_index, take, drop, filter, find, map, ap, sym, refl, arith, subst, mul-suc, lit<}
use Rattle.std.proofs.Math.Seq.{take-append_seam}
use Rattle.std.proofs.lemmas.List.Elements.{All-contains, All-filter}
use Rattle.memory_spec.specs.Zones.{InZone}
use Rattle.elf_read_spec.specs.declared.ElfKind.{ElfKind}
use Rattle.elf_read_spec.specs.declared.ElfKind.TheVariants.{Short, Magic, Class, Endian, Version, Kind, Machine, Flags, HeaderSize, Table, SegmentRange, SegmentOverlap, NoSymbols, SymbolTable, StringTable}
use Rattle.elf_read_spec.specs.Image.{Image, Segment, Symbol}
use Rattle.elf_read_spec.specs.File as spec
use Rattle.elf_make.specs.Layout as layout
use Rattle.elf_make.specs.Parts.{CanBeWritten, IsWritten, IsPlaced, AreApart, memory_of, IsSegmentOfWords, IsSymbolOfWords}
use Rattle.elf_make.proofs.Read.{front_word, front_half, word_at, half_at}
use Rattle.elf_make.proofs.Places.{AreThere, are_there, file_is, from_programs, from_strings, sections_of}
use Rattle.elf_make.proofs.Programs.{IsProgram, HasPrograms, segments_read, program_there}
use Rattle.elf_make.proofs.Entries.{HasEntries, symbols_read, entries_ended}

-- the fields of the ELF header
pub record IsHeader (file : List ℕ) (programs sections flags : ℕ) : Type 0 where
  pub magic : (at : ℕ) → at < 4 → spec.u8_at file at ≡ slice_index (0x7f ∷ 0x45 ∷ 0x4c ∷ 0x46 ∷ []) at
  pub class : spec.u8_at file 4 ≡ 1
  pub endian : spec.u8_at file 5 ≡ 1
  pub ident_version : spec.u8_at file 6 ≡ 1
  pub kind : spec.u16_at file 16 ≡ 2
  pub machine : spec.u16_at file 18 ≡ 243
  pub version : spec.u32_at file 20 ≡ 1
  pub programs_at : spec.u32_at file 28 ≡ 52
  pub sections_at : spec.u32_at file 32 ≡ sections
  pub flags_are : spec.u32_at file 36 ≡ flags
  pub header_size : spec.u16_at file 40 ≡ 52
  pub program_size : spec.u16_at file 42 ≡ 32
  pub programs_are : spec.u16_at file 44 ≡ programs
  pub section_size : spec.u16_at file 46 ≡ 40
  pub sections_are : spec.u16_at file 48 ≡ 3

magic_is : (rest : List ℕ) (at : ℕ) → at < 4
    → slice_index (0x7f ∷ 0x45 ∷ 0x4c ∷ 0x46 ∷ rest) at ≡ slice_index (0x7f ∷ 0x45 ∷ 0x4c ∷ 0x46 ∷ []) at
magic_is rest zero h = refl
magic_is rest (suc zero) h = refl
magic_is rest (suc (suc zero)) h = refl
magic_is rest (suc (suc (suc zero))) h = refl
magic_is rest (suc (suc (suc (suc n)))) h = absurd (omega arith)

is_header : (programs sections flags : ℕ) (rest : List ℕ) → programs < 2 ^ 16 → sections < 2 ^ 32 → flags < 2 ^ 32
    → IsHeader (layout.header programs sections flags ++ rest) programs sections flags
unfolding layout.word layout.half layout.ident
is_header programs sections flags rest p s f =
    let file : List ℕ = layout.header programs sections flags ++ rest in
    record {
      magic = λ at h. magic_is (drop 4 file) at h;
      class = refl;
      endian = refl;
      ident_version = refl;
      kind = front_half file _ 16 2 refl (lit< tt);
      machine = front_half file _ 18 243 refl (lit< tt);
      version = front_word file _ 20 1 refl (lit< tt);
      programs_at = front_word file _ 28 52 refl (lit< tt);
      sections_at = front_word file _ 32 sections refl s;
      flags_are = front_word file _ 36 flags refl f;
      header_size = front_half file _ 40 52 refl (lit< tt);
      program_size = front_half file _ 42 32 refl (lit< tt);
      programs_are = front_half file _ 44 programs refl p;
      section_size = front_half file _ 46 40 refl (lit< tt);
      sections_are = front_half file _ 48 3 refl (lit< tt);
    }

-- the fields of the three section headers
pub record AreSections (file : List ℕ) (base table table_size strings strings_size : ℕ) : Type 0 where
  pub null : spec.u32_at file (base + 4) ≡ 0
  pub table_kind : spec.u32_at file (base + 44) ≡ 2
  pub table_offset : spec.u32_at file (base + 56) ≡ table
  pub table_bytes : spec.u32_at file (base + 60) ≡ table_size
  pub table_link : spec.u32_at file (base + 64) ≡ 2
  pub entry_size : spec.u32_at file (base + 76) ≡ 16
  pub strings_kind : spec.u32_at file (base + 84) ≡ 3
  pub strings_offset : spec.u32_at file (base + 96) ≡ strings
  pub strings_bytes : spec.u32_at file (base + 100) ≡ strings_size

are_sections : (file : List ℕ) (base table table_size strings strings_size : ℕ)
    → drop base file ≡ layout.section_headers table table_size strings strings_size → table < 2 ^ 32 → table_size < 2 ^ 32 → strings < 2 ^ 32
    → strings_size < 2 ^ 32 → AreSections file base table table_size strings strings_size
unfolding layout.word layout.no_section
are_sections file base table table_size strings strings_size here t ts s ss =
    let part : List ℕ = layout.section_headers table table_size strings strings_size in
    record {
      null = word_at file part _ base 4 0 here refl (lit< tt);
      table_kind = word_at file part _ base 44 2 here refl (lit< tt);
      table_offset = word_at file part _ base 56 table here refl t;
      table_bytes = word_at file part _ base 60 table_size here refl ts;
      table_link = word_at file part _ base 64 2 here refl (lit< tt);
      entry_size = word_at file part _ base 76 16 here refl (lit< tt);
      strings_kind = word_at file part _ base 84 3 here refl (lit< tt);
      strings_offset = word_at file part _ base 96 strings here refl s;
      strings_bytes = word_at file part _ base 100 strings_size here refl ss;
    }

find_miss : (p : ℕ → Bool) (x : ℕ) (xs : List ℕ) → p x ≡ false → find p (x ∷ xs) ≡ find p xs
find_miss p x xs e = rw e refl

find_hit : (p : ℕ → Bool) (x : ℕ) (xs : List ℕ) → p x ≡ true → find p (x ∷ xs) ≡ Some x
find_hit p x xs e = rw e refl

filter_miss : (p : ℕ → Bool) (x : ℕ) (xs : List ℕ) → p x ≡ false → filter p (x ∷ xs) ≡ filter p xs
filter_miss p x xs e = rw e refl

-- the second section is the symbol table
table_found : (file : List ℕ) (programs sections flags table table_size strings strings_size : ℕ) → IsHeader file programs sections flags
    → AreSections file sections table table_size strings strings_size → spec.symbol_table file ≡ Some (sections + 40)
unfolding spec.symbol_table
table_found file programs sections flags table table_size strings strings_size h s =
    let p : ℕ → Bool = λ at. spec.u32_at file (at + 4) == 2 in
    let here : sections + 40 + 4 ≡ sections + 44 = omega arith in
    ap (λ n. find p (spec.entries n 40 (spec.u16_at file 48))) h.sections_at ∙ ap (λ n. find p (spec.entries sections 40 n)) h.sections_are
    ∙ find_miss p sections ((sections + 40) ∷ (sections + 40 + 40) ∷ []) (ap (λ n. n == 2) s.null)
    ∙ find_hit p (sections + 40) ((sections + 40 + 40) ∷ []) (ap (λ n. n == 2) (ap (λ n. spec.u32_at file n) here ∙ s.table_kind))

-- the fields of the symbol table and of its strings, at their headers
pub record IsSymbolTable (file : List ℕ) (header table table_size strings strings_size : ℕ) : Type 0 where
  pub offset : spec.u32_at file (header + 16) ≡ table
  pub size : spec.u32_at file (header + 20) ≡ table_size
  pub link : spec.u32_at file (header + 24) ≡ 2
  pub entry_size : spec.u32_at file (header + 36) ≡ 16
  pub strings_kind : spec.u32_at file (spec.string_table file header + 4) ≡ 3
  pub strings_offset : spec.u32_at file (spec.string_table file header + 16) ≡ strings
  pub strings_size_is : spec.u32_at file (spec.string_table file header + 20) ≡ strings_size

is_symbol_table : (file : List ℕ) (programs sections flags table table_size strings strings_size : ℕ) → IsHeader file programs sections flags
    → AreSections file sections table table_size strings strings_size
    → IsSymbolTable file (sections + 40) table table_size strings strings_size
is_symbol_table file programs sections flags table table_size strings strings_size h s =
    let field : (k n : ℕ) → sections + 40 + k ≡ sections + n → spec.u32_at file (sections + 40 + k) ≡ spec.u32_at file (sections + n) =
    λ k n e. ap (λ m. spec.u32_at file m) e in
    let link : spec.u32_at file (sections + 40 + 24) ≡ 2 = field 24 64 (omega arith) ∙ s.table_link in
    let there : spec.string_table file (sections + 40) ≡ sections + 80 = omega (arith, h.sections_at, link) in
    let string_field : (k n : ℕ) → sections + 80 + k ≡ sections + n → spec.u32_at file (spec.string_table file (sections + 40) + k) ≡ spec.u32_at file (sections + n) =
    λ k n e. ap (λ m. spec.u32_at file (m + k)) there ∙ ap (λ m. spec.u32_at file m) e in
    record {
      offset = field 16 56 (omega arith) ∙ s.table_offset;
      size = field 20 60 (omega arith) ∙ s.table_bytes;
      link = link;
      entry_size = field 36 76 (omega arith) ∙ s.entry_size;
      strings_kind = string_field 4 84 (omega arith) ∙ s.strings_kind;
      strings_offset = string_field 16 96 (omega arith) ∙ s.strings_offset;
      strings_size_is = string_field 20 100 (omega arith) ∙ s.strings_bytes;
    }

all_entries : (P : ℕ → Type 0) (from size count : ℕ) → ((k : ℕ) → k < count → P (from + size * k)) → All P (spec.entries from size count)
all_entries P from size zero each k d h = absurd (omega arith)
all_entries P from size (suc count) each zero d h = subst P (omega arith) (each 0 (omega arith))
all_entries P from size (suc count) each (suc k) d h =
    all_entries P (from + size) size count
    (λ j w. let place : from + size * suc j ≡ from + size + size * j = omega (arith, mul-suc size j) in subst P place (each (suc j) (omega arith))) k d
    (omega arith)

all_filter : (P : ℕ → Type 0) (p : ℕ → Bool) (xs : List ℕ) → All P xs → (x : ℕ) → Contains (filter p xs) x → P x
all_filter P p xs all x within = All-contains P (filter p xs) x (All-filter p P xs all) within

-- all that is read of the file
pub record IsReadBack (image : Image) (file : List ℕ) (flags : ℕ) : Type 0 where
  pub there : AreThere image file
  pub header : IsHeader file (length image.segments) (layout.sections_at image) flags
  pub table_is : spec.symbol_table file ≡ Some (layout.sections_at image + 40)
  pub fields : IsSymbolTable file (layout.sections_at image + 40) (layout.table_at image) (layout.table_size image) (layout.strings_at image) (layout.strings_size image)

read_back : (image : Image) (flags : ℕ) → CanBeWritten image flags → flags < 2 ^ 32 → IsReadBack image (layout.file_of image flags) flags
read_back image flags w f =
    let file = layout.file_of image flags in
    let there = are_there image flags in
    let header : IsHeader file (length image.segments) (layout.sections_at image) flags =
    subst (λ xs. IsHeader xs (length image.segments) (layout.sections_at image) flags) (sym (file_is image flags))
    (is_header (length image.segments) (layout.sections_at image) flags (from_programs image) (omega (arith, w.few)) (omega (arith, w.short)) f) in
    let sections =
    are_sections file (layout.sections_at image) (layout.table_at image) (layout.table_size image) (layout.strings_at image) (layout.strings_size image)
    there.sections (omega (arith, w.short)) (omega (arith, w.short)) (omega (arith, w.short)) (omega (arith, w.short)) in
    record {
      there = there;
      header = header;
      table_is =
          table_found file (length image.segments) (layout.sections_at image) flags (layout.table_at image) (layout.table_size image)
          (layout.strings_at image) (layout.strings_size image) header sections;
      fields =
          is_symbol_table file (length image.segments) (layout.sections_at image) flags (layout.table_at image) (layout.table_size image)
          (layout.strings_at image) (layout.strings_size image) header sections;
    }

has_programs : (image : Image) (file : List ℕ) (flags : ℕ) → CanBeWritten image flags → IsReadBack image file flags
    → All IsSegmentOfWords image.segments → HasPrograms file 52 (layout.contents_at image) image.segments
has_programs image file flags w r words = record {
  headers_rest = _;
  headers = r.there.programs;
  contents_rest = _;
  contents = r.there.contents;
  words = words;
  short = omega (arith, w.short);
}

strings_there : (image : Image) (file : List ℕ) (flags : ℕ) → IsReadBack image file flags
    → spec.strings_of file (layout.sections_at image + 40) ≡ 0 ∷ layout.names image.symbols
strings_there image file flags r =
    let table = layout.sections_at image + 40 in
    let size : layout.strings_size image ≡ length (0 ∷ layout.names image.symbols) = omega arith in
    let whole : take (layout.strings_size image) (drop (layout.strings_at image) file) ≡ 0 ∷ layout.names image.symbols =
    ap (λ xs. take (layout.strings_size image) xs) r.there.strings
    ∙ ap (λ m. take m (from_strings image)) size
    ∙ take-append_seam (0 ∷ layout.names image.symbols) (layout.padding (layout.strings_end image) ++ sections_of image) in
    ap (λ m. take m (drop (spec.u32_at file (spec.string_table file table + 16)) file)) r.fields.strings_size_is
    ∙ ap (λ m. take (layout.strings_size image) (drop m file)) r.fields.strings_offset ∙ whole

has_entries : (image : Image) (file : List ℕ) (flags : ℕ) → CanBeWritten image flags → IsReadBack image file flags
    → All IsSymbolOfWords image.symbols → HasEntries file (0 ∷ layout.names image.symbols) (layout.table_at image + 16) 1 image.symbols
has_entries image file flags w r words = record {
  entries_rest = _;
  entries = r.there.entries;
  names = refl;
  words = words;
  named = w.named;
  after_empty = lit< tt;
  short = omega (arith, w.short);
}

-- the entries: the empty one, and the symbols'
entries_are : (image : Image) (file : List ℕ) (flags : ℕ) → IsReadBack image file flags
    → spec.symbols file (layout.sections_at image + 40)
    ≡ layout.table_at image ∷ spec.entries (layout.table_at image + 16) 16 (length image.symbols)
entries_are image file flags r =
    let table = layout.sections_at image + 40 in
    let count : spec.u32_at file (table + 20) / 16 ≡ suc (length image.symbols) = omega (arith, r.fields.size) in
    ap (λ n. spec.entries n 16 (spec.u32_at file (table + 20) / 16)) r.fields.offset
    ∙ ap (λ n. spec.entries (layout.table_at image) 16 n) count

empty_entry : (image : Image) (file : List ℕ) (flags : ℕ) → IsReadBack image file flags
    → (spec.u16_at file (layout.table_at image + 14) ≡ 0) × (spec.u32_at file (layout.table_at image) ≡ 0)
unfolding layout.word layout.half
empty_entry image file flags r = (
  half_at file _ _ (layout.table_at image) 14 0 r.there.table refl (lit< tt),
  front_word file _ (layout.table_at image) 0 r.there.table (lit< tt),
)

image_read : (image : Image) (file : List ℕ) (flags : ℕ) → CanBeWritten image flags → IsReadBack image file flags
    → All IsSegmentOfWords image.segments → All IsSymbolOfWords image.symbols → image ≡ spec.image_of file
unfolding spec.image_of
image_read image file flags w r words symbol_words =
    let p : ℕ → Bool = λ at. not (spec.u16_at file (at + 14) == 0) in
    let table = layout.sections_at image + 40 in
    let make : List Segment → List Symbol → Image = λ segments symbols. record { segments = segments; symbols = symbols } in
    let segments : map (spec.segment_at file) (spec.loads file) ≡ image.segments =
    ap (λ n. map (spec.segment_at file) (filter (λ at. spec.u32_at file at == 1) (spec.entries n 32 (spec.u16_at file 44)))) r.header.programs_at
    ∙ ap (λ n. map (spec.segment_at file) (filter (λ at. spec.u32_at file at == 1) (spec.entries 52 32 n))) r.header.programs_are
    ∙ segments_read file 52 (layout.contents_at image) image.segments (has_programs image file flags w r words) in
    let undefined : not (spec.u16_at file (layout.table_at image + 14) == 0) ≡ false =
    ap (λ n. not (n == 0)) (empty_entry image file flags r).0 in
    let symbols : spec.defined_symbols file (spec.symbol_table file) ≡ image.symbols =
    ap (λ o. spec.defined_symbols file o) r.table_is
    ∙ ap (λ xs. map (spec.symbol_at file table) (filter p xs)) (entries_are image file flags r)
    ∙ ap (λ xs. map (spec.symbol_at file table) xs)
    (filter_miss p (layout.table_at image) (spec.entries (layout.table_at image + 16) 16 (length image.symbols)) undefined)
    ∙ symbols_read file (0 ∷ layout.names image.symbols) table (layout.table_at image + 16) 1 image.symbols
    (strings_there image file flags r) (has_entries image file flags w r symbol_words) in
    ap (λ xs. make xs image.symbols) (sym segments) ∙ ap (λ xs. make (map (spec.segment_at file) (spec.loads file)) xs) (sym symbols)

-- a place among the program headers
abbrev IsPlace : ℕ → ℕ → Type 0
IsPlace count at = (k : ℕ) × (k < count) × (52 + 32 * k ≡ at)

load_place : (image : Image) (file : List ℕ) (flags : ℕ) → IsReadBack image file flags → (at : ℕ) → Contains (spec.loads file) at
    → IsPlace (length image.segments) at
load_place image file flags r at within =
    let headers : spec.entries 52 32 (length image.segments) ≡ spec.program_headers file =
    sym (ap (λ n. spec.entries n 32 (spec.u16_at file 44)) r.header.programs_at ∙ ap (λ n. spec.entries 52 32 n) r.header.programs_are) in
    all_filter (IsPlace (length image.segments)) (λ x. spec.u32_at file x == 1) (spec.program_headers file)
    (subst (λ xs. All (IsPlace (length image.segments)) xs) headers
    (all_entries (IsPlace (length image.segments)) 52 32 (length image.segments) (λ k h. (k, h, refl)))) at within

placed_of : (file : List ℕ) (at place : ℕ) (s : Segment) → IsProgram file at place s → IsPlaced s
    → (0 < length s.bytes → place + length s.bytes ≤ length file) → spec.IsPlaced file at
placed_of file at place s p placed inside = record {
  sizes = omega (arith, p.filesz, p.memsz, placed.sizes);
  in_file = λ some. let full : 0 < length s.bytes = omega (arith, p.filesz) in omega (arith, inside full, p.filesz, p.offset_is);
  in_space = omega (arith, p.vaddr, p.memsz, placed.in_space);
}

placed_at : (image : Image) (file : List ℕ) (flags : ℕ) → CanBeWritten image flags → IsReadBack image file flags
    → All IsSegmentOfWords image.segments → (at : ℕ) → Contains (spec.loads file) at → spec.IsPlaced file at
placed_at image file flags w r words at within =
    let d : Segment = record { vaddr = 0; memsz = 0; flags = 0; bytes = [] } in
    let place = load_place image file flags r at within in
    let there = program_there file 52 (layout.contents_at image) place.0 d image.segments (has_programs image file flags w r words) place.1 in
    subst (spec.IsPlaced file) place.2
    (placed_of file (52 + 32 * place.0) there.0 (get_or image.segments place.0 d) there.1 (w.placed place.0 d place.1) there.2)

in_memory : (file : List ℕ) (at place address : ℕ) (s : Segment) → IsProgram file at place s → InZone (spec.memory_of file at) address → InZone (memory_of s) address
in_memory file at place address s p inside = record {
  from = omega (arith, p.vaddr, inside.from);
  below = omega (arith, p.vaddr, p.memsz, inside.below);
}

apart_of : (file : List ℕ) (at other place there : ℕ) (s t : Segment) → IsProgram file at place s → IsProgram file other there t → AreApart s t
    → spec.AreApart file at other
apart_of file at other place there s t p q apart = record {
  apart = λ address x y. apart.apart address (in_memory file at place address s p x) (in_memory file other there address t q y);
}

apart_at : (image : Image) (file : List ℕ) (flags : ℕ) → CanBeWritten image flags → IsReadBack image file flags
    → All IsSegmentOfWords image.segments → (at : ℕ) → Contains (spec.loads file) at → (earlier : ℕ) → Contains (spec.loads file) earlier
    → earlier < at → spec.AreApart file earlier at
apart_at image file flags w r words at within earlier among less =
    let d : Segment = record { vaddr = 0; memsz = 0; flags = 0; bytes = [] } in
    let k = load_place image file flags r at within in
    let j = load_place image file flags r earlier among in
    let here = program_there file 52 (layout.contents_at image) k.0 d image.segments (has_programs image file flags w r words) k.1 in
    let there = program_there file 52 (layout.contents_at image) j.0 d image.segments (has_programs image file flags w r words) j.1 in
    let before : j.0 < k.0 = omega (arith, k.2, j.2) in
    subst (λ n. spec.AreApart file n at) j.2
    (subst (λ n. spec.AreApart file (52 + 32 * j.0) n) k.2
    (apart_of file (52 + 32 * j.0) (52 + 32 * k.0) there.0 here.0 (get_or image.segments j.0 d) (get_or image.segments k.0 d) there.1 here.1
    (w.apart j.0 k.0 d before k.1)))

is_table : (image : Image) (file : List ℕ) (flags : ℕ) → IsReadBack image file flags → spec.IsTable file (layout.sections_at image + 40)
is_table image file flags r = record {
  entry_size = r.fields.entry_size;
  whole = omega (arith, r.fields.size);
  in_file = omega (arith, r.fields.size, r.fields.offset, r.there.long);
}

has_strings : (image : Image) (file : List ℕ) (flags : ℕ) → IsReadBack image file flags → spec.HasStrings file (layout.sections_at image + 40)
has_strings image file flags r = record {
  linked = omega (arith, r.fields.link, r.header.sections_are);
  strings = r.fields.strings_kind;
  in_file = omega (arith, r.fields.strings_offset, r.fields.strings_size_is, r.there.long);
}

ended_at : (image : Image) (file : List ℕ) (flags : ℕ) → CanBeWritten image flags → IsReadBack image file flags
    → All IsSymbolOfWords image.symbols → All (spec.IsEnded file (layout.sections_at image + 40)) (spec.symbols file (layout.sections_at image + 40))
ended_at image file flags w r words =
    let table = layout.sections_at image + 40 in
    let strings = 0 ∷ layout.names image.symbols in
    let first : spec.IsEnded file table (layout.table_at image) =
    λ some. absurd (omega (arith, (empty_entry image file flags r).1)) in
    subst (λ xs. All (spec.IsEnded file table) xs) (sym (entries_are image file flags r))
    (all_cons (spec.IsEnded file table) (layout.table_at image) (spec.entries (layout.table_at image + 16) 16 (length image.symbols)) first
    (all_entries (spec.IsEnded file table) (layout.table_at image + 16) 16 (length image.symbols)
    (λ k h.
    entries_ended file strings table (layout.table_at image + 16) 1 k image.symbols (strings_there image file flags r)
    (has_entries image file flags w r words) h)))
  where
    all_cons : (P : ℕ → Type 0) (x : ℕ) (xs : List ℕ) → P x → All P xs → All P (x ∷ xs)
    all_cons P x xs here rest zero d h = here
    all_cons P x xs here rest (suc k) d h = rest k d (omega arith)

some_same : (file : List ℕ) (x y : ℕ) → spec.symbol_table file ≡ Some x → spec.symbol_table file ≡ Some y → x ≡ y
some_same file x y e f = cc

-- the file has no fault
keeps : (image : Image) (file : List ℕ) (flags : ℕ) → CanBeWritten image flags → IsReadBack image file flags
    → All IsSegmentOfWords image.segments → All IsSymbolOfWords image.symbols → (reason : ElfKind) (at : ℕ) → spec.Keeps file reason at
keeps image file flags w r words symbol_words reason at =
    elim reason as (λ kind. spec.Keeps file kind at) [
      | Short ↦ λ e. omega (arith, r.there.long)
      | Magic ↦ λ h. r.header.magic at h
      | Class ↦ λ e. r.header.class
      | Endian ↦ λ e. r.header.endian
      | Version ↦ (λ e. r.header.ident_version, λ e. r.header.version)
      | Kind ↦ λ e. r.header.kind
      | Machine ↦ λ e. r.header.machine
      | Flags ↦ λ e. ap (λ n. n % 16) r.header.flags_are ∙ w.plain
      | HeaderSize ↦ (λ e. r.header.header_size, λ e some. r.header.program_size, λ e some. r.header.section_size)
      | Table ↦ (
        λ e. omega (arith, r.header.programs_at, r.header.programs_are, r.there.long),
        λ e. omega (arith, r.header.sections_at, r.header.sections_are, r.there.long),
      )
      | SegmentRange ↦ λ within. placed_at image file flags w r words at within
      | SegmentOverlap ↦ λ within earlier among less. apart_at image file flags w r words at within earlier among less
      | NoSymbols ↦ λ e. subst IsSome (sym r.table_is) refl
      | SymbolTable ↦ λ e. subst (spec.IsTable file) (some_same file (layout.sections_at image + 40) at r.table_is e) (is_table image file flags r)
      | StringTable ↦ (
        λ e. subst (spec.HasStrings file) (some_same file (layout.sections_at image + 40) at r.table_is e) (has_strings image file flags r),
        λ table e strings.
            subst (λ t. Contains (spec.symbols file t) at → spec.IsEnded file t at) (some_same file (layout.sections_at image + 40) table r.table_is e)
            (λ within.
            All-contains (spec.IsEnded file (layout.sections_at image + 40)) (spec.symbols file (layout.sections_at image + 40)) at
            (ended_at image file flags w r symbol_words) within),
      )
    ]

pub written : (image : Image) (flags : ℕ) → CanBeWritten image flags → flags < 2 ^ 32 → All IsSegmentOfWords image.segments
    → All IsSymbolOfWords image.symbols → IsWritten (layout.file_of image flags) image flags
written image flags w f words symbol_words =
    let r = read_back image flags w f in
    record {
      is_elf = record {
        accepted = keeps image (layout.file_of image flags) flags w r words symbol_words;
        image_is = image_read image (layout.file_of image flags) flags w r words symbol_words;
      };
      flags_are = r.header.flags_are;
    }
