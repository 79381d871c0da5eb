-- Numbers of a file of bytes: its symbols' values are words, and its segments lie below 2 ^ 32.
use Rattle.std.proofs.Common.{◌<◌, ◌≤◌, ◌+◌, ◌^◌, ℕ, zero, suc, List, [], ◌∷◌, length, map, get_or, take, drop, Option, Some, None, sym, subst, arith}
use Rattle.std.specs.Prelude.{All, filter, not, ◌==◌}
use Rattle.std.proofs.lemmas.List.{length-take, get_or_default}
use Rattle.std.proofs.lemmas.List.Elements.{All-nil, All-head, All-tail, All-map, All-drop}
use Rattle.elf_read_spec.specs.declared.ElfKind.TheVariants.{SegmentRange}
use Rattle.elf_read_spec.specs.declared.fields.TheConstants.{SHN_UNDEF, ST_SHNDX, ST_VALUE, P_OFFSET, P_FILESZ}
use Rattle.elf_read_spec.specs.Image.{Image, Segment, Symbol}
use Rattle.elf_read_spec.specs.File.{u16_at, u32_at, loads, segment_at, symbol_at, symbols, symbol_table, defined_symbols, image_of, IsElf}
use Rattle.elf_read_spec.proofs.Runs.{file_has_bytes}
use Rattle.cert_run_spec.specs.Laws.{FilesHaveWords}

byte_small : (xs : List ℕ) → All (λ b. b < 2 ^ 8) xs → (i : ℕ) → get_or xs i 0 < 2 ^ 8
byte_small [] each i = omega arith
byte_small (x ∷ xs) each zero = All-head (λ b. b < 2 ^ 8) x xs each
byte_small (x ∷ xs) each (suc i) = byte_small xs (All-tail (λ b. b < 2 ^ 8) x xs each) i

word_small : (bytes : List ℕ) → All (λ b. b < 2 ^ 8) bytes → (at : ℕ) → u32_at bytes at < 2 ^ 32
unfolding u32_at
word_small bytes each at =
    let here = All-drop (λ b. b < 2 ^ 8) at bytes each in
    let a = byte_small (drop at bytes) here 0 in
    let b = byte_small (drop at bytes) here 1 in
    let c = byte_small (drop at bytes) here 2 in
    let d = byte_small (drop at bytes) here 3 in
    omega (arith, a, b, c, d)

symbols_small : (bytes : List ℕ) → All (λ b. b < 2 ^ 8) bytes → (table : Option ℕ) → All (λ (s : Symbol). s.value < 2 ^ 32) (defined_symbols bytes table)
symbols_small bytes each None = All-nil (λ (s : Symbol). s.value < 2 ^ 32)
symbols_small bytes each (Some table) =
    All-map (λ (s : Symbol). s.value < 2 ^ 32) (symbol_at bytes table) (filter (λ at. not (u16_at bytes (at + ST_SHNDX) == SHN_UNDEF)) (symbols bytes table))
    (λ k d below. word_small bytes each (get_or (filter (λ at. not (u16_at bytes (at + ST_SHNDX) == SHN_UNDEF)) (symbols bytes table)) k d + ST_VALUE))

taken_short : (n : ℕ) (xs : List ℕ) → length (take n xs) ≤ n
taken_short n xs = omega (arith, length-take n xs)

segments_small : (bytes : List ℕ) (image : Image) → IsElf bytes image → All (λ (s : Segment). s.vaddr + length s.bytes ≤ 2 ^ 32) (map (segment_at bytes) (loads bytes))
segments_small bytes image is =
    All-map (λ (s : Segment). s.vaddr + length s.bytes ≤ 2 ^ 32) (segment_at bytes) (loads bytes)
    (λ k d below.
    (let at = get_or (loads bytes) k d in
    let placed = is.accepted SegmentRange at (k, below, get_or_default (loads bytes) k at d below) in
    omega (arith, placed.sizes, placed.in_space, taken_short (u32_at bytes (at + P_FILESZ)) (drop (u32_at bytes (at + P_OFFSET)) bytes))))

pub files_have_words : FilesHaveWords
unfolding image_of
files_have_words bytes image each is = record {
  bytes = file_has_bytes bytes image each is;
  symbols = subst (λ (i : Image). All (λ (s : Symbol). s.value < 2 ^ 32) i.symbols) (sym is.image_is) (symbols_small bytes each (symbol_table bytes));
  segments = subst (λ (i : Image). All (λ (s : Segment). s.vaddr + length s.bytes ≤ 2 ^ 32) i.segments) (sym is.image_is) (segments_small bytes image is);
}
