-- Numbers of a file: its global pointer, the addresses of its globals and its runs of fixed bytes are below 2 ^ 32.
use Rattle.std.proofs.Common.{◌≡◌, ◌≢◌, ◌∙◌, ◌<◌, ◌≤◌, ◌+◌, ◌-◌, ◌^◌, ℕ, Bool, true, false, List, [], ◌∷◌, length, map, get_or, Option, Some, None, refl, subst, arith}
use Rattle.std.specs.Prelude.{◌==◌, not, nat_le, All, IfSome, filter, find, slice_get, if◌then◌else◌, bytes_eq, codes}
use Rattle.std.specs.Option.{option_or}
use Rattle.std.proofs.lemmas.Bool.{leb-true}
use Rattle.std.proofs.lemmas.List.{get_or_default}
use Rattle.std.proofs.lemmas.Option.{slice_get_within, slice_get-get_or}
use Rattle.std.proofs.lemmas.List.Elements.{All-head, All-tail, All-map, All-filter}
use Rattle.memory_spec.specs.Runs.{Run}
use Rattle.elf_read_spec.specs.Image.{Image, Segment, Symbol, is_fixed, byte_in, fixed_among, fixed_byte, has_name, values_of, first_of, named_beside, named_of, object_named, global_pointer}
use Rattle.elf_read_spec.specs.Runs.{IsRun, AreRuns}
use Rattle.elf_read_spec.specs.declared.fields.TheConstants.{STT_OBJECT}
use Rattle.c_graph_laws.specs.Together.{IsPlace}
use Rattle.validity_spec.specs.Claim.{value_named, globals_of}
use Rattle.cert_run_spec.specs.Files.{HasWords}

abbrev Small : ℕ → Type 0
Small n = n < 2 ^ 32

-- ---- symbols

first_small : (values : List ℕ) → All Small values → IfSome (first_of values) Small
first_small [] all = tt
first_small (v ∷ values) all = All-head Small v values all

pub pointer_small : (image : Image) → HasWords image → IfSome (global_pointer image) (λ p. p < 2 ^ 32)
unfolding global_pointer
pointer_small image words =
    first_small (map (λ (s : Symbol). s.value) (filter (λ (s : Symbol). bytes_eq s.name (codes "__global_pointer$")) image.symbols))
    (All-map Small (λ (s : Symbol). s.value) (filter (λ (s : Symbol). bytes_eq s.name (codes "__global_pointer$")) image.symbols)
    (All-filter (λ (s : Symbol). bytes_eq s.name (codes "__global_pointer$")) (λ (s : Symbol). s.value < 2 ^ 32) image.symbols words.symbols))

named_small : (values : List ℕ) (address : ℕ) → All Small values → value_named (named_of values) ≡ Some address → Small address
named_small [] address all e = absurd (cc)
named_small (v ∷ values) address all e = by (find (λ other. not (other == v)) values) e
  where
    by : (o : Option ℕ) → value_named (named_beside v o) ≡ Some address → Small address
    by None h = let same : v ≡ address = cc in subst Small same (All-head Small v values all)
    by (Some other) h = absurd (cc)

global_small : (image : Image) → HasWords image → (name : List ℕ) (address : ℕ) → globals_of image name ≡ Some address → address < 2 ^ 32
unfolding object_named
global_small image words name address e =
    named_small (values_of STT_OBJECT name image) address
    (All-map Small (λ (s : Symbol). s.value) (filter (has_name STT_OBJECT name) image.symbols)
    (All-filter (has_name STT_OBJECT name) (λ (s : Symbol). s.value < 2 ^ 32) image.symbols words.symbols)) e

-- ---- runs

in_segment : (s : Segment) (address byte : ℕ) → s.vaddr + length s.bytes ≤ 2 ^ 32 → byte_in s address ≡ Some byte → address < 2 ^ 32
in_segment s address byte within e = by (nat_le s.vaddr address) refl e
  where
    by : (b : Bool) → nat_le s.vaddr address ≡ b → (if b then slice_get s.bytes (address - s.vaddr) else None) ≡ Some byte → address < 2 ^ 32
    by true is h = omega (arith, within, leb-true s.vaddr address is, slice_get_within s.bytes (address - s.vaddr) byte h)
    by false is h = absurd (cc)

fixed_small : (segments : List Segment) → All (λ (s : Segment). s.vaddr + length s.bytes ≤ 2 ^ 32) segments → (address byte : ℕ) → fixed_among segments address ≡ Some byte
    → address < 2 ^ 32
fixed_small [] all address byte e = absurd (cc)
fixed_small (s ∷ segments) all address byte e = by (is_fixed s) e
    (λ h. fixed_small segments (All-tail (λ (x : Segment). x.vaddr + length x.bytes ≤ 2 ^ 32) s segments all) address byte h)
  where
    inner : (o : Option ℕ) → byte_in s address ≡ o → option_or o (fixed_among segments address) ≡ Some byte → (fixed_among segments address ≡ Some byte → address < 2 ^ 32)
        → address < 2 ^ 32
    inner None is h others = others h
    inner (Some b) is h others = in_segment s address b (All-head (λ (x : Segment). x.vaddr + length x.bytes ≤ 2 ^ 32) s segments all) is

    by : (b : Bool) → option_or (if b then byte_in s address else None) (fixed_among segments address) ≡ Some byte
        → (fixed_among segments address ≡ Some byte → address < 2 ^ 32) → address < 2 ^ 32
    by true h others = inner (byte_in s address) refl h others
    by false h others = others h

some_bytes : (bytes : List ℕ) → bytes ≢ [] → 0 < length bytes
some_bytes [] some = absurd (some refl)
some_bytes (b ∷ bytes) some = omega arith

run_small : (image : Image) → HasWords image → (run : Run) → IsRun image run → (0 < length run.bytes) × (run.start + length run.bytes ≤ 2 ^ 32)
unfolding fixed_byte
run_small image words run is =
    let long = some_bytes run.bytes is.not_empty in
    let last = length run.bytes - 1 in
    let there = is.fixed last (omega (arith, long)) ∙ slice_get-get_or run.bytes last 0 (omega (arith, long)) in
    let below = fixed_small image.segments words.segments (run.start + last) (get_or run.bytes last 0) there in (
      long,
      omega (arith, long, below),
    )

pub is_place : (image : Image) → HasWords image → (runs : List Run) → AreRuns image runs → IsPlace (record { globals = globals_of image; runs = runs })
is_place image words runs are = record {
  global = global_small image words;
  run = λ k d below. run_small image words (get_or runs k d) ((are.exactly (get_or runs k d)).0 (k, below, get_or_default runs k (get_or runs k d) d below));
}
