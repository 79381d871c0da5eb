-- Writing a list piece by piece.
use Rattle.std.proofs.Common.{◌≡◌, ◌+◌, ◌++◌, ◌<◌, ◌∙◌, ℕ, List, [], ◌∷◌, length, length-append, get_or, drop, map, append_assoc, replicate, ◌-◌, ◌%◌, ap, sym, arith, add-one, subst, All, below_more, ◌≤◌}
use Rattle.std.proofs.Math.ListN.{get_or-map}
use Rattle.std.proofs.lemmas.List.{append-nil, drop_all, length-replicate, length-map, get_or_default}
use Rattle.std.proofs.Math.Seq.{drop-cons}
use Rattle.elf_read_spec.specs.Image as spec
use Rattle.elf_read.specs.declared.parts.Segment.{Segment}
use Rattle.elf_read.specs.declared.parts.Symbol.{Symbol}
use Rattle.elf_read.specs.Values.{segment_of, symbol_of}
use Rattle.elf_make.specs.Layout as layout
use Rattle.elf_make.specs.Parts.{IsNamed, IsSegmentOfWords, IsSymbolOfWords}

head_and_rest : {X : Type 0} (xs : List X) (i : ℕ) (d : X) → i < length xs → drop i xs ≡ get_or xs i d ∷ drop (i + 1) xs
head_and_rest xs i d h = drop-cons xs i d h ∙ ap (λ n. get_or xs i d ∷ drop n xs) (sym (add-one i))

-- numbers, one after the other
pub eight : (old a b c d e f g h : List ℕ)
    → old ++ (a ++ (b ++ (c ++ (d ++ (e ++ (f ++ (g ++ (h ++ [])))))))) ≡ old ++ (a ++ b ++ c ++ d ++ e ++ f ++ g ++ h)
eight old a b c d e f g h = simp (append_assoc, append-nil)

pub ten : (old a b c d e f g h i j : List ℕ)
    → old ++ (a ++ (b ++ (c ++ (d ++ (e ++ (f ++ (g ++ (h ++ (i ++ (j ++ [])))))))))) ≡ old ++ (a ++ b ++ c ++ d ++ e ++ f ++ g ++ h ++ i ++ j)
ten old a b c d e f g h i j = simp (append_assoc, append-nil)

-- what is written, and what is left
pub record ProgramsLeft (out whole : List ℕ) (at end i : ℕ) (segments : List Segment) : Type 0 where
  pub space_left : at + length (layout.contents (map segment_of (drop i segments))) ≡ end
  pub so_far : out ++ layout.program_headers at (map segment_of (drop i segments)) ≡ whole
  pub words : (k : ℕ) (d : Segment) → k < i → IsSegmentOfWords (segment_of (get_or segments k d))

pub program_written : (out whole : List ℕ) (at end i : ℕ) (d : Segment) (segments : List Segment) → i < length segments
    → IsSegmentOfWords (segment_of (get_or segments i d)) → ProgramsLeft out whole at end i segments
    → ProgramsLeft (out ++ layout.program_header at (segment_of (get_or segments i d))) whole (at + length (get_or segments i d).bytes.now) end (i + 1) segments
program_written out whole at end i d segments h word so =
    let s = get_or segments i d in
    let rest = drop (i + 1) segments in
    let next : drop i segments ≡ get_or segments i d ∷ drop (i + 1) segments = head_and_rest segments i d h in
    record {
      space_left =
          let was : at + length (s.bytes.now ++ layout.contents (map segment_of rest)) ≡ end =
          ap (λ xs. at + length (layout.contents (map segment_of xs))) (sym next) ∙ so.space_left in
          omega (arith, was, length-append s.bytes.now (layout.contents (map segment_of rest)));
      so_far =
          append_assoc out (layout.program_header at (segment_of s)) (layout.program_headers (at + length s.bytes.now) (map segment_of rest))
          ∙ ap (λ xs. out ++ layout.program_headers at (map segment_of xs)) (sym next) ∙ so.so_far;
      words =
          λ k e less.
          below_more (λ n. IsSegmentOfWords (segment_of (get_or segments n e))) i (λ n w. so.words n e w)
          (subst (λ x. IsSegmentOfWords (segment_of x)) (get_or_default segments i d e h) word) k less;
    }

-- the bytes of the next segment end at the end at the latest
pub segment_fits : (out whole : List ℕ) (at end i : ℕ) (d : Segment) (segments : List Segment) → i < length segments → ProgramsLeft out whole at end i segments
    → at + length (get_or segments i d).bytes.now ≤ end
segment_fits out whole at end i d segments h so =
    let s = get_or segments i d in
    let rest = drop (i + 1) segments in
    let was : at + length (s.bytes.now ++ layout.contents (map segment_of rest)) ≡ end =
    ap (λ xs. at + length (layout.contents (map segment_of xs))) (sym (head_and_rest segments i d h)) ∙ so.space_left in
    omega (arith, was, length-append s.bytes.now (layout.contents (map segment_of rest)))

-- nothing is left
pub programs_done : (out whole : List ℕ) (at end i : ℕ) (segments : List Segment) → length segments ≤ i → ProgramsLeft out whole at end i segments → out ≡ whole
programs_done out whole at end i segments h so =
    sym (append-nil out) ∙ ap (λ xs. out ++ layout.program_headers at (map segment_of xs)) (sym (drop_all i segments h)) ∙ so.so_far

pub record EntriesLeft (out whole : List ℕ) (at end i : ℕ) (symbols : List Symbol) : Type 0 where
  pub space_left : at + length (layout.names (map symbol_of (drop i symbols))) ≡ end
  pub so_far : out ++ layout.symbol_entries at (map symbol_of (drop i symbols)) ≡ whole
  pub words : (k : ℕ) (d : Symbol) → k < i → IsSymbolOfWords (symbol_of (get_or symbols k d))

pub entry_written : (out whole : List ℕ) (at end i next : ℕ) (d : Symbol) (symbols : List Symbol) → i < length symbols
    → next ≡ at + length (get_or symbols i d).name.now + 1 → IsSymbolOfWords (symbol_of (get_or symbols i d)) → EntriesLeft out whole at end i symbols
    → EntriesLeft (out ++ layout.entry at (symbol_of (get_or symbols i d))) whole next end (i + 1) symbols
entry_written out whole at end i next d symbols h next_is word so =
    let s = get_or symbols i d in
    let rest = drop (i + 1) symbols in
    let left : drop i symbols ≡ get_or symbols i d ∷ drop (i + 1) symbols = head_and_rest symbols i d h in
    record {
      space_left =
          let was : at + length (s.name.now ++ 0 ∷ layout.names (map symbol_of rest)) ≡ end =
          ap (λ xs. at + length (layout.names (map symbol_of xs))) (sym left) ∙ so.space_left in
          omega (arith, was, length-append s.name.now (0 ∷ layout.names (map symbol_of rest)));
      so_far =
          ap (λ n. (out ++ layout.entry at (symbol_of s)) ++ layout.symbol_entries n (map symbol_of rest)) next_is
          ∙ append_assoc out (layout.entry at (symbol_of s)) (layout.symbol_entries (at + length s.name.now + 1) (map symbol_of rest))
          ∙ ap (λ xs. out ++ layout.symbol_entries at (map symbol_of xs)) (sym left) ∙ so.so_far;
      words =
          λ k e less.
          below_more (λ n. IsSymbolOfWords (symbol_of (get_or symbols n e))) i (λ n w. so.words n e w)
          (subst (λ x. IsSymbolOfWords (symbol_of x)) (get_or_default symbols i d e h) word) k less;
    }

-- the name of the next symbol ends below the end
pub symbol_fits : (out whole : List ℕ) (at end i : ℕ) (d : Symbol) (symbols : List Symbol) → i < length symbols → EntriesLeft out whole at end i symbols
    → at + length (get_or symbols i d).name.now + 1 ≤ end
symbol_fits out whole at end i d symbols h so =
    let s = get_or symbols i d in
    let rest = drop (i + 1) symbols in
    let was : at + length (s.name.now ++ 0 ∷ layout.names (map symbol_of rest)) ≡ end =
    ap (λ xs. at + length (layout.names (map symbol_of xs))) (sym (head_and_rest symbols i d h)) ∙ so.space_left in
    omega (arith, was, length-append s.name.now (0 ∷ layout.names (map symbol_of rest)))

-- nothing is left
pub entries_done : (out whole : List ℕ) (at end i : ℕ) (symbols : List Symbol) → length symbols ≤ i → EntriesLeft out whole at end i symbols → out ≡ whole
entries_done out whole at end i symbols h so =
    sym (append-nil out) ∙ ap (λ xs. out ++ layout.symbol_entries at (map symbol_of xs)) (sym (drop_all i symbols h)) ∙ so.so_far

-- the file, written piece by piece
pub file_written : (image : spec.Image) (flags programs contents table table_size strings strings_size padding sections : ℕ)
    (o0 o1 o2 o3 o4 o5 o6 o7 o8 o9 : List ℕ) → o0 ≡ [] → o1 ≡ o0 ++ layout.header programs sections flags
    → o2 ≡ o1 ++ layout.program_headers contents image.segments → o3 ≡ o2 ++ layout.contents image.segments → o4 ≡ o3 ++ replicate 16 0
    → o5 ≡ o4 ++ layout.symbol_entries 1 image.symbols → o6 ≡ o5 ++ replicate 1 0 → o7 ≡ o6 ++ layout.names image.symbols
    → o8 ≡ o7 ++ replicate padding 0 → o9 ≡ o8 ++ layout.section_headers table table_size strings strings_size
    → programs ≡ length image.segments → contents ≡ layout.contents_at image → table ≡ layout.table_at image
    → table_size ≡ layout.table_size image → strings ≡ layout.strings_at image → strings_size ≡ layout.strings_size image
    → padding ≡ 3 - (layout.strings_end image + 3) % 4 → sections ≡ layout.strings_end image + padding → o9 ≡ layout.file_of image flags
unfolding layout.file_of
file_written image flags programs contents table table_size strings strings_size padding sections o0 o1 o2 o3 o4 o5 o6 o7 o8 o9 e0 e1 e2 e3 e4 e5 e6 e7 e8 e9 programs_is contents_is table_is table_size_is strings_is strings_size_is padding_is sections_is =
    let long : length (layout.padding (layout.strings_end image)) ≡ 3 - (layout.strings_end image + 3) % 4 =
    length-replicate (3 - (layout.strings_end image + 3) % 4) 0 in
    let sections_there : sections ≡ layout.sections_at image =
    sections_is ∙ ap (λ n. layout.strings_end image + n) (padding_is ∙ sym long) in
    let head : o1 ≡ layout.header (length image.segments) (layout.sections_at image) flags =
    e1 ∙ ap (λ xs. xs ++ layout.header programs sections flags) e0
    ∙ ap (λ n. layout.header n sections flags) programs_is ∙ ap (λ n. layout.header (length image.segments) n flags) sections_there in
    let five : o5 ≡ layout.header (length image.segments) (layout.sections_at image) flags ++ layout.program_headers (layout.contents_at image) image.segments ++ layout.contents image.segments ++ replicate 16 0 ++ layout.symbol_entries 1 image.symbols =
    e5
    ∙ ap (λ xs. xs ++ layout.symbol_entries 1 image.symbols)
    (e4
    ∙ ap (λ xs. xs ++ replicate 16 0)
    (e3
    ∙ ap (λ xs. xs ++ layout.contents image.segments)
    (e2 ∙ ap (λ xs. xs ++ layout.program_headers contents image.segments) head
    ∙ ap (λ n. layout.header (length image.segments) (layout.sections_at image) flags ++ layout.program_headers n image.segments) contents_is))) in
    let seven : o7 ≡ o5 ++ 0 ∷ layout.names image.symbols =
    e7 ∙ ap (λ xs. xs ++ layout.names image.symbols) e6 ∙ append_assoc o5 (0 ∷ []) (layout.names image.symbols) in
    let eight : o8 ≡ o5 ++ 0 ∷ layout.names image.symbols ++ layout.padding (layout.strings_end image) =
    e8 ∙ ap (λ xs. xs ++ replicate padding 0) seven
    ∙ ap (λ n. o5 ++ 0 ∷ layout.names image.symbols ++ replicate n 0) padding_is in
    e9 ∙ ap (λ xs. xs ++ layout.section_headers table table_size strings strings_size) eight
    ∙ ap (λ n. o5 ++ 0 ∷ layout.names image.symbols ++ layout.padding (layout.strings_end image) ++ layout.section_headers n table_size strings strings_size) table_is
    ∙ ap (λ n. o5 ++ 0 ∷ layout.names image.symbols ++ layout.padding (layout.strings_end image) ++ layout.section_headers (layout.table_at image) n strings strings_size) table_size_is
    ∙ ap (λ n. o5 ++ 0 ∷ layout.names image.symbols ++ layout.padding (layout.strings_end image) ++ layout.section_headers (layout.table_at image) (layout.table_size image) n strings_size) strings_is
    ∙ ap (λ n. o5 ++ 0 ∷ layout.names image.symbols ++ layout.padding (layout.strings_end image) ++ layout.section_headers (layout.table_at image) (layout.table_size image) (layout.strings_at image) n) strings_size_is
    ∙ ap (λ xs. xs ++ 0 ∷ layout.names image.symbols ++ layout.padding (layout.strings_end image) ++ layout.section_headers (layout.table_at image) (layout.table_size image) (layout.strings_at image) (layout.strings_size image)) five

-- a list of kinds below 16
pub kinds_of : (symbols : List Symbol) → All IsNamed (map symbol_of symbols) → (k : ℕ) (d : Symbol) → k < length symbols
    → (get_or symbols k d).kind < 16
kinds_of symbols all k d h =
    let inside : k < length (map symbol_of symbols) = omega (arith, length-map symbols symbol_of) in
    let named : IsNamed (symbol_of (get_or symbols k d)) = subst IsNamed (get_or-map symbol_of symbols k d) (all k (symbol_of d) inside) in
    named.kind

-- what holds of each element holds of each image of one
pub all_mapped : {X Y : Type 0} (f : X → Y) (P : Y → Type 0) (xs : List X) (none : X) (i : ℕ) → length xs ≤ i
    → ((k : ℕ) (d : X) → k < i → P (f (get_or xs k d))) → All P (map f xs)
all_mapped f P xs none i end each k d h =
    let inside : k < length xs = omega (arith, length-map xs f) in
    subst P (sym (get_or_default (map f xs) k d (f none) h ∙ get_or-map f xs k none)) (each k none (omega arith))
