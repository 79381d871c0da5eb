-- Addresses in the image of a file of bytes are below 2 ^ 32.
use Rattle.std.proofs.Common.{◌≡◌, ◌∙◌, ℕ, suc, ◌+◌, ◌-◌, ◌^◌, ◌<◌, ◌≤◌, Bool, true, false, List, [], ◌∷◌, All, length, get_or, slice_index, drop, filter, find, map, not, ◌==◌, Option, Some, None, refl, sym, subst, arith, inl, inr}
use Rattle.std.specs.Prelude.{IfSome, nat_le, bytes_eq, codes, slice_get, if◌then◌else◌}
use Rattle.std.specs.Option.{option_or}
use Rattle.std.proofs.lemmas.Bool.{cases_lt}
use Rattle.std.proofs.lemmas.List.{get_or_past, length-take}
use Rattle.std.proofs.lemmas.List.Elements.{All-drop, All-filter, All-map, Contains-get_or}
use Rattle.std.proofs.lemmas.Option.{slice_get_within, slice_get-get_or}
use Rattle.memory_spec.specs.Runs as memory
use Rattle.elf_read_spec.specs.declared.ElfKind.TheVariants.{SegmentRange}
use Rattle.elf_read_spec.specs.declared.SymbolValues.TheVariants.{One}
use Rattle.elf_read_spec.specs.declared.fields.TheConstants.{STT_OBJECT}
use Rattle.elf_read_spec.specs.Image.{Image, Segment, Symbol, is_fixed, byte_in, fixed_among, fixed_byte, first_of, global_pointer, has_name, named_beside, named_of, object_named}
use Rattle.elf_read_spec.specs.File.{IsPlaced, defined_symbols, image_of, loads, segment_at, symbol_at, symbol_table, u32_at}
use Rattle.elf_read_spec.specs.Runs.{AreRuns, IsRun}
use Rattle.cert_run.specs.Sides.{IsRead}

abbrev IsWord : ℕ → Type 0
IsWord n = n < 2 ^ 32

-- ---- words of a file

byte_small : (bytes : List ℕ) → All (λ b. b < 2 ^ 8) bytes → (i : ℕ) → slice_index bytes i < 2 ^ 8
byte_small bytes small i = elim (cases_lt i (length bytes)) [
  | inl within ↦ small i 0 within
  | inr past ↦ omega (arith, get_or_past bytes i 0 past)
]

word_small : (bytes : List ℕ) → All (λ b. b < 2 ^ 8) bytes → (at : ℕ) → IsWord (u32_at bytes at)
unfolding u32_at
word_small bytes small at =
    let here = byte_small (drop at bytes) (All-drop (λ b. b < 2 ^ 8) at bytes small) in
    let first = here 0 in
    let second = here 1 in
    let third = here 2 in
    let fourth = here 3 in
    omega (arith, first, second, third, fourth)

-- ---- symbols

symbols_small : (bytes : List ℕ) → All (λ b. b < 2 ^ 8) bytes → (table : Option ℕ) → All (λ (s : Symbol). IsWord s.value) (defined_symbols bytes table)
symbols_small bytes small None = λ k d h. absurd (omega (arith, h))
symbols_small bytes small (Some table) = All-map (λ (s : Symbol). IsWord s.value) (symbol_at bytes table) _ (λ k d h. word_small bytes small _)

pub values_small : (image : Image) → IsRead image → All (λ (s : Symbol). IsWord s.value) image.symbols
unfolding image_of
values_small image read =
    subst (λ (i : Image). All (λ (s : Symbol). IsWord s.value) i.symbols) (sym read.image_is.image_is) (symbols_small read.file read.are_bytes (symbol_table read.file))

first_small : (values : List ℕ) → All IsWord values → IfSome (first_of values) IsWord
first_small [] all = tt
first_small (value ∷ values) all = all 0 value (omega arith)

kept_values : (p : Symbol → Bool) (symbols : List Symbol) → All (λ (s : Symbol). IsWord s.value) symbols → All IsWord (map (λ (s : Symbol). s.value) (filter p symbols))
kept_values p symbols all =
    All-map IsWord (λ (s : Symbol). s.value) (filter p symbols) (All-filter p (λ (s : Symbol). IsWord s.value) symbols all)

pub pointer_small : (image : Image) → IsRead image → IfSome (global_pointer image) IsWord
unfolding global_pointer
pointer_small image read = first_small _ (kept_values (λ s. bytes_eq s.name (codes "__global_pointer$")) image.symbols (values_small image read))

one_value : (values : List ℕ) (address : ℕ) → All IsWord values → named_of values ≡ One address → IsWord address
one_value [] address all e = absurd (cc)
one_value (value ∷ values) address all e = at (find (λ other. not (other == value)) values) e
  where
    at : (o : Option ℕ) → named_beside value o ≡ One address → IsWord address
    at None is = let same : value ≡ address = cc in subst IsWord same (all 0 value (omega arith))
    at (Some other) is = absurd (cc)

pub object_small : (image : Image) (name : List ℕ) (address : ℕ) → IsRead image → object_named image name ≡ One address → IsWord address
unfolding object_named
object_small image name address read e = one_value _ address (kept_values (has_name STT_OBJECT name) image.symbols (values_small image read)) e

-- ---- fixed bytes

abbrev Ends : Segment → Type 0
Ends s = s.vaddr + length s.bytes ≤ 2 ^ 32

segment_ends : (bytes : List ℕ) (at : ℕ) → IsPlaced bytes at → Ends (segment_at bytes at)
segment_ends bytes at placed =
    omega (arith, length-take (u32_at bytes (at + 16)) (drop (u32_at bytes (at + 4)) bytes), placed.sizes, placed.in_space)

segments_end : (image : Image) → IsRead image → All Ends image.segments
unfolding image_of
segments_end image read =
    subst (λ (i : Image). All Ends i.segments) (sym read.image_is.image_is)
    (All-map Ends (segment_at read.file) (loads read.file)
    (λ k d h. segment_ends read.file _ (read.image_is.accepted SegmentRange _ (Contains-get_or (loads read.file) k d h))))

byte_below : (s : Segment) (address byte : ℕ) → Ends s → byte_in s address ≡ Some byte → IsWord address
byte_below s address byte ends e = at (nat_le s.vaddr address) refl e
  where
    at : (b : Bool) → nat_le s.vaddr address ≡ b → (if b then slice_get s.bytes (address - s.vaddr) else None) ≡ Some byte → IsWord address
    at true le is = let within = slice_get_within s.bytes (address - s.vaddr) byte is in omega (arith, within, ends)
    at false le is = absurd (cc)

among_below : (segments : List Segment) (address byte : ℕ) → All Ends segments → fixed_among segments address ≡ Some byte → IsWord address
among_below [] address byte all e = absurd (cc)
among_below (s ∷ segments) address byte all e =
    at (is_fixed s) (byte_in s address) refl e (λ later. among_below segments address byte (λ k d h. all (suc k) d (omega (arith, h))) later)
  where
    at : (b : Bool) (o : Option ℕ) → byte_in s address ≡ o → option_or (if b then o else None) (fixed_among segments address) ≡ Some byte
        → (fixed_among segments address ≡ Some byte → IsWord address) → IsWord address
    at true (Some x) is e later = byte_below s address x (all 0 s (omega arith)) is
    at true None is e later = later e
    at false o is e later = later e

pub fixed_small : (image : Image) (address byte : ℕ) → IsRead image → fixed_byte image address ≡ Some byte → IsWord address
unfolding fixed_byte
fixed_small image address byte read e = among_below image.segments address byte (segments_end image read) e

-- a run has a byte, and ends within the address space
abbrev pub IsBelow : memory.Run → Type 0
IsBelow r = (0 < length r.bytes) × (r.start + length r.bytes ≤ 2 ^ 32)

some_bytes : (xs : List ℕ) → (xs ≡ [] → ⊥) → 0 < length xs
some_bytes [] h = absurd (h refl)
some_bytes (x ∷ xs) h = omega arith

run_below : (image : Image) (r : memory.Run) → IsRead image → IsRun image r → IsBelow r
run_below image r read is =
    let full = some_bytes r.bytes is.not_empty in
    let last : ℕ = length r.bytes - 1 in
    let within : last < length r.bytes = omega (arith, full) in
    let there = is.fixed last within ∙ slice_get-get_or r.bytes last 0 within in
    let below = fixed_small image (r.start + last) (get_or r.bytes last 0) read there in
    (full, omega (arith, below, full))

pub runs_below : (image : Image) (runs : List memory.Run) → IsRead image → AreRuns image runs → All IsBelow runs
runs_below image runs read are k d h = run_below image (get_or runs k d) read ((are.exactly (get_or runs k d)).0 (Contains-get_or runs k d h))
