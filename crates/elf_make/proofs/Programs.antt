-- The program headers of a written file.
use Rattle.std.proofs.Common.{◌≡◌, ◌==◌, ◌+◌, ◌*◌, ◌^◌, ◌<◌, ◌≤◌, ◌++◌, ◌∙◌, ℕ, zero, suc, List, [], ◌∷◌, All, length, length-append, get_or, take, drop, filter, map, append_assoc, ap, refl, arith, subst, eq-eqb, lit<}
use Rattle.std.proofs.Math.Seq.{take-append_seam}
use Rattle.std.proofs.lemmas.List.{length-drop}
use Rattle.elf_read_spec.specs.Image.{Segment}
use Rattle.elf_read_spec.specs.File as spec
use Rattle.elf_make.specs.Layout as layout
use Rattle.elf_make.specs.Parts.{IsSegmentOfWords}
use Rattle.elf_make.proofs.Read.{front_word, word_at, filter_taken}
use Rattle.elf_make.proofs.Places.{after, length_program}

-- the fields of a program header
pub record IsProgram (file : List ℕ) (at offset : ℕ) (s : Segment) : Type 0 where
  pub kind : spec.u32_at file at ≡ 1
  pub offset_is : spec.u32_at file (at + 4) ≡ offset
  pub vaddr : spec.u32_at file (at + 8) ≡ s.vaddr
  pub filesz : spec.u32_at file (at + 16) ≡ length s.bytes
  pub memsz : spec.u32_at file (at + 20) ≡ s.memsz
  pub flags : spec.u32_at file (at + 24) ≡ s.flags

is_program : (file rest : List ℕ) (at offset : ℕ) (s : Segment) → drop at file ≡ layout.program_header offset s ++ rest → IsSegmentOfWords s
    → offset < 2 ^ 32 → length s.bytes < 2 ^ 32 → IsProgram file at offset s
unfolding layout.word
is_program file rest at offset s here words o l = record {
  kind = front_word file _ at 1 here (lit< tt);
  offset_is = word_at file (layout.program_header offset s ++ rest) _ at 4 offset here refl o;
  vaddr = word_at file (layout.program_header offset s ++ rest) _ at 8 s.vaddr here refl words.vaddr;
  filesz = word_at file (layout.program_header offset s ++ rest) _ at 16 (length s.bytes) here refl l;
  memsz = word_at file (layout.program_header offset s ++ rest) _ at 20 s.memsz here refl words.memsz;
  flags = word_at file (layout.program_header offset s ++ rest) _ at 24 s.flags here refl words.flags;
}

-- a written file has these segments from an offset of headers and an offset of bytes on
pub record HasPrograms (file : List ℕ) (base offset : ℕ) (segments : List Segment) : Type 0 where
  pub headers_rest : List ℕ
  pub headers : drop base file ≡ layout.program_headers offset segments ++ headers_rest
  pub contents_rest : List ℕ
  pub contents : drop offset file ≡ layout.contents segments ++ contents_rest
  pub words : All IsSegmentOfWords segments
  pub short : offset + length (layout.contents segments) < 2 ^ 32

next_programs : (file : List ℕ) (base offset : ℕ) (s : Segment) (segments : List Segment) → HasPrograms file base offset (s ∷ segments)
    → HasPrograms file (base + 32) (offset + length s.bytes) segments
next_programs file base offset s segments so = record {
  headers_rest = so.headers_rest;
  headers =
      after file (layout.program_header offset s) (layout.program_headers (offset + length s.bytes) segments ++ so.headers_rest) base 32
      (so.headers ∙ append_assoc (layout.program_header offset s) (layout.program_headers (offset + length s.bytes) segments) so.headers_rest)
      (length_program offset s);
  contents_rest = so.contents_rest;
  contents =
      after file s.bytes (layout.contents segments ++ so.contents_rest) offset (length s.bytes)
      (so.contents ∙ append_assoc s.bytes (layout.contents segments) so.contents_rest) refl;
  words = λ k d h. so.words (suc k) d (omega arith);
  short = omega (arith, so.short, length-append s.bytes (layout.contents segments));
}

first_program : (file : List ℕ) (base offset : ℕ) (s : Segment) (segments : List Segment) → HasPrograms file base offset (s ∷ segments)
    → IsProgram file base offset s
first_program file base offset s segments so =
    is_program file (layout.program_headers (offset + length s.bytes) segments ++ so.headers_rest) base offset s
    (so.headers ∙ append_assoc (layout.program_header offset s) (layout.program_headers (offset + length s.bytes) segments) so.headers_rest)
    (so.words 0 s (omega arith)) (omega (arith, so.short)) (omega (arith, so.short, length-append s.bytes (layout.contents segments)))

bytes_read : (file : List ℕ) (base offset : ℕ) (s : Segment) (segments : List Segment) → HasPrograms file base offset (s ∷ segments)
    → take (length s.bytes) (drop offset file) ≡ s.bytes
bytes_read file base offset s segments so =
    ap (λ xs. take (length s.bytes) xs) (so.contents ∙ append_assoc s.bytes (layout.contents segments) so.contents_rest)
    ∙ take-append_seam s.bytes (layout.contents segments ++ so.contents_rest)

segment_eq : (one other : Segment) → one.vaddr ≡ other.vaddr → one.memsz ≡ other.memsz → one.flags ≡ other.flags → one.bytes ≡ other.bytes
    → one ≡ other
segment_eq one other v m f b =
    let make : ℕ → ℕ → ℕ → List ℕ → Segment = λ vaddr memsz flags bytes. record { vaddr = vaddr; memsz = memsz; flags = flags; bytes = bytes } in
    ap (λ x. make x one.memsz one.flags one.bytes) v ∙ ap (λ x. make other.vaddr x one.flags one.bytes) m
    ∙ ap (λ x. make other.vaddr other.memsz x one.bytes) f ∙ ap (λ x. make other.vaddr other.memsz other.flags x) b

segment_read : (file : List ℕ) (base offset : ℕ) (s : Segment) (segments : List Segment) → HasPrograms file base offset (s ∷ segments)
    → spec.segment_at file base ≡ s
segment_read file base offset s segments so =
    let p = first_program file base offset s segments so in
    segment_eq (spec.segment_at file base) s p.vaddr p.memsz p.flags
    (ap (λ n. take n (drop (spec.u32_at file (base + 4)) file)) p.filesz ∙ ap (λ n. take (length s.bytes) (drop n file)) p.offset_is
    ∙ bytes_read file base offset s segments so)

-- the segments of the headers are those that were written
pub segments_read : (file : List ℕ) (base offset : ℕ) (segments : List Segment) → HasPrograms file base offset segments
    → map (spec.segment_at file) (filter (λ at. spec.u32_at file at == 1) (spec.entries base 32 (length segments))) ≡ segments
segments_read file base offset [] so = refl
segments_read file base offset (s ∷ segments) so =
    let p = first_program file base offset s segments so in
    ap (λ xs. map (spec.segment_at file) xs)
    (filter_taken (λ at. spec.u32_at file at == 1) base (spec.entries (base + 32) 32 (length segments)) (eq-eqb (spec.u32_at file base) 1 p.kind))
    ∙ ap (λ x. x ∷ map (spec.segment_at file) (filter (λ at. spec.u32_at file at == 1) (spec.entries (base + 32) 32 (length segments))))
    (segment_read file base offset s segments so)
    ∙ ap (λ xs. s ∷ xs) (segments_read file (base + 32) (offset + length s.bytes) segments (next_programs file base offset s segments so))

program_inside : (file : List ℕ) (base offset : ℕ) (s : Segment) (segments : List Segment) → HasPrograms file base offset (s ∷ segments)
    → 0 < length s.bytes → offset + length s.bytes ≤ length file
program_inside file base offset s segments so full =
    let left : length (drop offset file) ≡ length ((s.bytes ++ layout.contents segments) ++ so.contents_rest) = ap length so.contents in
    omega (arith, left, length-drop offset file, length-append (s.bytes ++ layout.contents segments) so.contents_rest, length-append s.bytes (layout.contents segments))

pub program_there : (file : List ℕ) (base offset k : ℕ) (d : Segment) (segments : List Segment) → HasPrograms file base offset segments
    → k < length segments
    → (place : ℕ) × IsProgram file (base + 32 * k) place (get_or segments k d)
    × (0 < length (get_or segments k d).bytes → place + length (get_or segments k d).bytes ≤ length file)
program_there file base offset k d [] so h = absurd (omega arith)
program_there file base offset zero d (s ∷ segments) so h =
    let here : base ≡ base + 32 * 0 = omega arith in
    (offset, subst (λ n. IsProgram file n offset s) here (first_program file base offset s segments so), program_inside file base offset s segments so)
program_there file base offset (suc k) d (s ∷ segments) so h =
    let there = program_there file (base + 32) (offset + length s.bytes) k d segments (next_programs file base offset s segments so) (omega arith) in
    let place : base + 32 + 32 * k ≡ base + 32 * suc k = omega arith in
    (there.0, subst (λ n. IsProgram file n there.0 (get_or segments k d)) place there.1, there.2)
