-- Where the parts of a written file are, and the numbers that are read there.
use Rattle.std.proofs.Common.{◌≡◌, ◌+◌, ◌*◌, ◌++◌, ◌∙◌, ℕ, List, [], ◌∷◌, length, length-append, drop, append_assoc, replicate, ap, sym, refl, arith}
use Rattle.std.proofs.Math.Seq.{drop-append_seam}
use Rattle.std.proofs.lemmas.List.{drop-drop, length-drop}
use Rattle.elf_read_spec.specs.Image.{Image, Segment, Symbol}
use Rattle.elf_make.specs.Layout as layout

-- after a part of a known length comes the rest
pub after : (file part rest : List ℕ) (base long : ℕ) → drop base file ≡ part ++ rest → length part ≡ long → drop (base + long) file ≡ rest
after file part rest base long here is =
    sym (drop-drop long base file) ∙ ap (λ xs. drop long xs) here ∙ ap (λ n. drop n (part ++ rest)) (sym is) ∙ drop-append_seam part rest

regroup : (h p c z e n d s : List ℕ) → h ++ p ++ c ++ z ++ e ++ n ++ d ++ s ≡ h ++ (p ++ (c ++ (z ++ (e ++ (n ++ (d ++ s))))))
regroup h p c z e n d s = simp append_assoc

abbrev pub sections_of : Image → List ℕ
sections_of image = layout.section_headers (layout.table_at image) (layout.table_size image) (layout.strings_at image) (layout.strings_size image)

abbrev pub from_strings : Image → List ℕ
from_strings image = (0 ∷ layout.names image.symbols) ++ (layout.padding (layout.strings_end image) ++ sections_of image)

abbrev pub from_table : Image → List ℕ
from_table image = replicate 16 0 ++ (layout.symbol_entries 1 image.symbols ++ from_strings image)

abbrev pub from_contents : Image → List ℕ
from_contents image = layout.contents image.segments ++ from_table image

abbrev pub from_programs : Image → List ℕ
from_programs image = layout.program_headers (layout.contents_at image) image.segments ++ from_contents image

abbrev pub header_of : Image → ℕ → List ℕ
header_of image flags = layout.header (length image.segments) (layout.sections_at image) flags

pub file_is : (image : Image) (flags : ℕ) → layout.file_of image flags ≡ header_of image flags ++ from_programs image
unfolding layout.file_of
file_is image flags =
    regroup (header_of image flags) (layout.program_headers (layout.contents_at image) image.segments) (layout.contents image.segments) (replicate 16 0)
    (layout.symbol_entries 1 image.symbols) (0 ∷ layout.names image.symbols) (layout.padding (layout.strings_end image)) (sections_of image)

pub length_header : (programs sections flags : ℕ) → length (layout.header programs sections flags) ≡ 52
unfolding layout.word layout.half layout.ident
length_header programs sections flags = refl

pub length_program : (offset : ℕ) (s : Segment) → length (layout.program_header offset s) ≡ 32
unfolding layout.word
length_program offset s = refl

pub length_entry : (place : ℕ) (s : Symbol) → length (layout.entry place s) ≡ 16
unfolding layout.word layout.half
length_entry place s = refl

pub length_sections : (table table_size strings strings_size : ℕ) → length (layout.section_headers table table_size strings strings_size) ≡ 120
unfolding layout.word layout.no_section
length_sections table table_size strings strings_size = refl

pub length_programs : (offset : ℕ) (segments : List Segment) → length (layout.program_headers offset segments) ≡ 32 * length segments
length_programs offset [] = refl
length_programs offset (s ∷ segments) =
    omega (
      arith,
      length-append (layout.program_header offset s) (layout.program_headers (offset + length s.bytes) segments),
      length_program offset s,
      length_programs (offset + length s.bytes) segments,
    )

pub length_entries : (place : ℕ) (symbols : List Symbol) → length (layout.symbol_entries place symbols) ≡ 16 * length symbols
length_entries place [] = refl
length_entries place (s ∷ symbols) =
    omega (
      arith,
      length-append (layout.entry place s) (layout.symbol_entries (place + length s.name + 1) symbols),
      length_entry place s,
      length_entries (place + length s.name + 1) symbols,
    )

-- where each part of the file begins
pub record AreThere (image : Image) (file : List ℕ) : Type 0 where
  pub programs : drop 52 file ≡ from_programs image
  pub contents : drop (layout.contents_at image) file ≡ from_contents image
  pub table : drop (layout.table_at image) file ≡ from_table image
  pub entries : drop (layout.table_at image + 16) file ≡ layout.symbol_entries 1 image.symbols ++ from_strings image
  pub strings : drop (layout.strings_at image) file ≡ from_strings image
  pub sections : drop (layout.sections_at image) file ≡ sections_of image
  pub long : length file ≡ layout.sections_at image + 120

pub are_there : (image : Image) (flags : ℕ) → AreThere image (layout.file_of image flags)
are_there image flags =
    let file = layout.file_of image flags in
    let start : drop 0 file ≡ header_of image flags ++ from_programs image = file_is image flags in
    let programs : drop 52 file ≡ from_programs image =
    after file (header_of image flags) (from_programs image) 0 52 start (length_header (length image.segments) (layout.sections_at image) flags) in
    let contents : drop (layout.contents_at image) file ≡ from_contents image =
    after file (layout.program_headers (layout.contents_at image) image.segments) (from_contents image) 52 (32 * length image.segments) programs
    (length_programs (layout.contents_at image) image.segments) in
    let table : drop (layout.table_at image) file ≡ from_table image =
    after file (layout.contents image.segments) (from_table image) (layout.contents_at image) (length (layout.contents image.segments)) contents refl in
    let entries : drop (layout.table_at image + 16) file ≡ layout.symbol_entries 1 image.symbols ++ from_strings image =
    after file (replicate 16 0) (layout.symbol_entries 1 image.symbols ++ from_strings image) (layout.table_at image) 16 table refl in
    let place : layout.table_at image + 16 + 16 * length image.symbols ≡ layout.strings_at image = omega arith in
    let strings : drop (layout.strings_at image) file ≡ from_strings image =
    ap (λ n. drop n file) (sym place)
    ∙ after file (layout.symbol_entries 1 image.symbols) (from_strings image) (layout.table_at image + 16) (16 * length image.symbols) entries
    (length_entries 1 image.symbols) in
    let names : length (0 ∷ layout.names image.symbols) ≡ layout.strings_size image = omega arith in
    let padding : drop (layout.strings_end image) file ≡ layout.padding (layout.strings_end image) ++ sections_of image =
    after file (0 ∷ layout.names image.symbols) (layout.padding (layout.strings_end image) ++ sections_of image) (layout.strings_at image)
    (layout.strings_size image) strings names in
    let sections : drop (layout.sections_at image) file ≡ sections_of image =
    after file (layout.padding (layout.strings_end image)) (sections_of image) (layout.strings_end image)
    (length (layout.padding (layout.strings_end image))) padding refl in
    record {
      programs = programs;
      contents = contents;
      table = table;
      entries = entries;
      strings = strings;
      sections = sections;
      long = long_of file (layout.sections_at image) (sections_of image) sections
          (length_sections (layout.table_at image) (layout.table_size image) (layout.strings_at image) (layout.strings_size image));
    }
  where
    long_of : (file : List ℕ) (base : ℕ) (rest : List ℕ) → drop base file ≡ rest → length rest ≡ 120 → length file ≡ base + 120
    long_of file base rest e long = omega (arith, length-drop base file, ap length e)
