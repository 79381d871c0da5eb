-- The runs of fixed bytes, by their extents.
use Rattle.std.proofs.Common.{◌≡◌, ◌≢◌, ◌+◌, ◌-◌, ◌^◌, ◌<◌, ◌≤◌, ◌++◌, ◌∙◌, ℕ, zero, suc, List, [], ◌∷◌, All, AllPairs, Option, Some, None, IsSome, option_map, unwrap_or, length, get_or, slice_get, map, take, ap, sym, refl, arith, subst, add-one}
use Rattle.std.proofs.Math.ListN.{get_or-map}
use Rattle.std.proofs.lemmas.List.{get_or_default, length-map, ext_get_or, map-append, take_all, take_more}
use Rattle.std.proofs.lemmas.List.Elements.{All-push}
use Rattle.std.proofs.lemmas.Option.{slice_get-map, slice_get-get_or, slice_get_within}
use Rattle.elf_read_spec.specs.Image as spec
use Rattle.memory_spec.specs.Runs.{Run, AreBytes}
use Rattle.memory_spec.specs.Viewed.{runs_of}
use Rattle.memory_spec.specs.Viewed.{run_of as kept}
use Rattle.memory_spec.specs.declared.Run.{Run as KeptRun}
use Rattle.memory_spec.proofs.Runs.{are_bytes}
use Rattle.elf_read_spec.specs.Runs.{IsRun, AreRuns, bytes_from}
use Rattle.elf_read_spec.proofs.Runs.{length-bytes_from, bytes_from-read}
use Rattle.elf_read.specs.declared.parts.Extent.{Extent}
use Rattle.elf_read.specs.declared.parts.Segment.{Segment}
use Rattle.elf_read.specs.Values.{segment_of, MayExtend, IsExtentAt}
use Rattle.elf_read.specs.Fixed.{AreFixed}
use Rattle.elf_read.proofs.FixedBytes.{covered_among, among_covered}
use Rattle.elf_read.specs.Extents.{IsInside, IsIn, AreExtents}

-- the run of an extent
unfoldable pub run_of : spec.Image → Extent → Run
run_of image e = record { start = e.first; bytes = bytes_from image e.first (e.last + 1 - e.first) }

-- the extents have the addresses of fixed bytes, in order, with a gap between each two
pub record AreExtentsOf (image : spec.Image) (extents : List Extent) : Type 0 where
  pub ordered : All (λ e. e.first ≤ e.last) extents
  pub gaps : AllPairs (λ x y. x.last + 1 < y.first) extents
  pub fixed : (address : ℕ) → IsIn extents address → IsSome (spec.fixed_byte image address)
  pub every : (address : ℕ) → IsSome (spec.fixed_byte image address) → IsIn extents address

none_when : (o : Option ℕ) → (IsSome o → ⊥) → o ≡ None
none_when None h = refl
none_when (Some b) h = absurd (h refl)

some_of : (o p : Option ℕ) → o ≡ p → IsSome p → IsSome o
some_of o p e some = subst IsSome (sym e) some

-- two extents that touch or meet are one
same_extent : (extents : List Extent) (k j : ℕ) (d : Extent) → AllPairs (λ x y. x.last + 1 < y.first) extents → k < length extents
    → j < length extents → (get_or extents k d).first ≤ (get_or extents j d).last + 1
    → (get_or extents j d).first ≤ (get_or extents k d).last + 1 → k ≡ j
same_extent extents k j d gaps h w one two =
    let not_below : k < j → ⊥ = λ less. let gap : (get_or extents k d).last + 1 < (get_or extents j d).first = gaps k j d less w in omega arith in
    let not_above : j < k → ⊥ = λ less. let gap : (get_or extents j d).last + 1 < (get_or extents k d).first = gaps j k d less h in omega arith in
    omega arith

within : (extents : List Extent) (k address : ℕ) (d : Extent) → k < length extents → IsInside (get_or extents k d) address → IsIn extents address
within extents k address d h inside = (k, h, λ e. subst (λ x. IsInside x address) (get_or_default extents k d e h) inside)

is_run : (image : spec.Image) (extents : List Extent) (k : ℕ) (d : Extent) → AreExtentsOf image extents → k < length extents
    → IsRun image (run_of image (get_or extents k d))
unfolding run_of
is_run image extents k d so h =
    let e = get_or extents k d in
    let order : e.first ≤ e.last = so.ordered k d h in
    let count : length (bytes_from image e.first (e.last + 1 - e.first)) ≡ e.last + 1 - e.first = length-bytes_from image e.first (e.last + 1 - e.first) in
    record {
      not_empty = λ empty. let none : length (bytes_from image e.first (e.last + 1 - e.first)) ≡ 0 = ap length empty in omega arith;
      fixed =
          λ n less.
          let there : n < e.last + 1 - e.first = omega arith in
          sym (bytes_from-read image e.first (e.last + 1 - e.first) n there
          (so.fixed (e.first + n) (within extents k (e.first + n) d h (record { from = omega arith; to = omega arith }))));
      begins =
          λ address before.
          none_when (spec.fixed_byte image address)
          (λ some.
          let other = so.every address some in
          let inside : IsInside (get_or extents other.0 d) address = other.2 d in
          let same : k ≡ other.0 = same_extent extents k other.0 d so.gaps h other.1 (omega (arith, inside.to)) (omega (arith, inside.from)) in
          let here : IsInside e address = subst (λ n. IsInside (get_or extents n d) address) (sym same) inside in
          omega (arith, here.from));
      ends =
          none_when (spec.fixed_byte image (e.first + length (bytes_from image e.first (e.last + 1 - e.first))))
          (λ some.
          let other = so.every (e.first + length (bytes_from image e.first (e.last + 1 - e.first))) some in
          let inside = other.2 d in
          let same : k ≡ other.0 = same_extent extents k other.0 d so.gaps h other.1 (omega (arith, inside.to)) (omega (arith, inside.from)) in
          let here = subst (λ n. IsInside (get_or extents n d) (e.first + length (bytes_from image e.first (e.last + 1 - e.first)))) (sym same) inside in
          omega (arith, here.to));
    }

not_empty_length : (xs : List ℕ) → xs ≢ [] → 0 < length xs
not_empty_length [] h = absurd (h refl)
not_empty_length (x ∷ xs) h = omega arith

get_some : (xs : List ℕ) (k : ℕ) → k < length xs → IsSome (slice_get xs k)
get_some xs k h = some_of (slice_get xs k) (Some (get_or xs k 0)) (slice_get-get_or xs k 0 h) refl

some_inj : (x y : ℕ) → Some x ≡ Some y → x ≡ y
some_inj x y e = cc

same_list : (xs ys : List ℕ) → length xs ≡ length ys → ((k : ℕ) → k < length xs → slice_get xs k ≡ slice_get ys k) → xs ≡ ys
same_list xs ys long each =
    ext_get_or 0 xs ys long
    (λ k h.
    some_inj (get_or xs k 0) (get_or ys k 0)
    (sym (slice_get-get_or xs k 0 h) ∙ each k h ∙ slice_get-get_or ys k 0 (omega arith)))

nothing : IsSome {T = ℕ} None → ⊥
nothing some = cc

-- a run begins and ends with an extent
run_bounds : (image : spec.Image) (extents : List Extent) (run : Run) (k : ℕ) (d : Extent) → AreExtentsOf image extents → IsRun image run
    → k < length extents → IsInside (get_or extents k d) run.start
    → (run.start ≡ (get_or extents k d).first) × (run.start + length run.bytes ≡ (get_or extents k d).last + 1)
run_bounds image extents run k d so is h inside =
    let e = get_or extents k d in
    let full : 0 < length run.bytes = not_empty_length run.bytes is.not_empty in
    let not_later : e.first < run.start → ⊥ =
    λ less.
    let before : run.start - 1 + 1 ≡ run.start = omega arith in
    let none : spec.fixed_byte image (run.start - 1) ≡ None = is.begins (run.start - 1) before in
    let some : IsSome (spec.fixed_byte image (run.start - 1)) =
    so.fixed (run.start - 1) (within extents k (run.start - 1) d h (record { from = omega arith; to = omega (arith, inside.to) })) in
    nothing (subst IsSome none some) in
    let not_shorter : run.start + length run.bytes ≤ e.last → ⊥ =
    λ less.
    nothing
    (subst IsSome is.ends
    (so.fixed (run.start + length run.bytes)
    (within extents k (run.start + length run.bytes) d h (record { from = omega (arith, inside.from); to = less })))) in
    let not_longer : e.last + 1 < run.start + length run.bytes → ⊥ =
    λ less.
    let j : ℕ = e.last + 1 - run.start in
    let short : e.last + 1 - run.start < length run.bytes = omega (arith, inside.to) in
    let there : run.start + (e.last + 1 - run.start) ≡ e.last + 1 = omega (arith, inside.to) in
    let some : IsSome (spec.fixed_byte image (e.last + 1)) =
    subst (λ a. IsSome (spec.fixed_byte image a)) there
    (some_of (spec.fixed_byte image (run.start + (e.last + 1 - run.start))) (slice_get run.bytes (e.last + 1 - run.start))
    (is.fixed (e.last + 1 - run.start) short) (get_some run.bytes (e.last + 1 - run.start) short)) in
    let other = so.every (e.last + 1) some in
    let beyond : IsInside (get_or extents other.0 d) (e.last + 1) = other.2 d in
    let order : e.first ≤ e.last = so.ordered k d h in
    let same : k ≡ other.0 = same_extent extents k other.0 d so.gaps h other.1 (omega (arith, beyond.to)) (omega (arith, beyond.from)) in
    let here : IsInside e (e.last + 1) = subst (λ n. IsInside (get_or extents n d) (e.last + 1)) (sym same) beyond in
    omega (arith, here.to) in
    (omega (arith, inside.from), omega arith)

run_eq : (one other : Run) → one.start ≡ other.start → one.bytes ≡ other.bytes → one ≡ other
run_eq one other e f =
    let make : ℕ → List ℕ → Run = λ start bytes. record { start = start; bytes = bytes } in
    ap (λ b. make one.start b) f ∙ ap (λ s. make s other.bytes) e

is_run_of : (image : spec.Image) (extents : List Extent) (run : Run) (k : ℕ) (d : Extent) → AreExtentsOf image extents → IsRun image run
    → k < length extents → IsInside (get_or extents k d) run.start → run_of image (get_or extents k d) ≡ run
unfolding run_of
is_run_of image extents run k d so is h inside =
    let e = get_or extents k d in
    let bounds = run_bounds image extents run k d so is h inside in
    let count : length (bytes_from image e.first (e.last + 1 - e.first)) ≡ e.last + 1 - e.first = length-bytes_from image e.first (e.last + 1 - e.first) in
    let order : e.first ≤ e.last = so.ordered k d h in
    let long : length (bytes_from image e.first (e.last + 1 - e.first)) ≡ length run.bytes = omega (arith, bounds.0, bounds.1) in
    let same : bytes_from image e.first (e.last + 1 - e.first) ≡ run.bytes =
    same_list (bytes_from image e.first (e.last + 1 - e.first)) run.bytes long
    (λ n less.
    let short : n < length run.bytes = omega arith in
    let read : spec.fixed_byte image (e.first + n) ≡ slice_get run.bytes n =
    ap (λ a. spec.fixed_byte image (a + n)) (sym bounds.0) ∙ is.fixed n short in
    bytes_from-read image e.first (e.last + 1 - e.first) n (omega arith)
    (some_of (spec.fixed_byte image (e.first + n)) (slice_get run.bytes n) read (get_some run.bytes n short))
    ∙ read) in
    run_eq (record { start = e.first; bytes = bytes_from image e.first (e.last + 1 - e.first) }) run (sym bounds.0) same

pub are_runs : (image : spec.Image) (extents : List Extent) → AreExtentsOf image extents → AreRuns image (map (run_of image) extents)
unfolding run_of
are_runs image extents so =
    let d : Extent = record { first = 0; last = 0 } in
    let none : Run = run_of image d in
    let starts : (k : ℕ) → k < length extents → get_or (map (λ run. run.start) (map (run_of image) extents)) k 0 ≡ (get_or extents k d).first =
    λ k h.
    get_or_default (map (λ run. run.start) (map (run_of image) extents)) k 0 none.start
    (omega (arith, length-map (map (run_of image) extents) (λ run. run.start), length-map extents (run_of image)))
    ∙ get_or-map (λ run. run.start) (map (run_of image) extents) k none ∙ ap (λ r. r.start) (get_or-map (run_of image) extents k d) in
    record {
      rising =
          λ k h.
          let inside : k + 1 < length extents =
          omega (arith, length-map (map (run_of image) extents) (λ run. run.start), length-map extents (run_of image)) in
          let here : k < length extents = omega arith in
          let gap : (get_or extents k d).last + 1 < (get_or extents (k + 1) d).first = so.gaps k (k + 1) d (omega arith) inside in
          let order : (get_or extents k d).first ≤ (get_or extents k d).last = so.ordered k d here in
          omega (arith, starts k here, starts (k + 1) inside);
      exactly =
          λ run. (
            λ among.
                let inside : among.0 < length extents = omega (arith, among.1, length-map extents (run_of image)) in
                let same : run_of image (get_or extents among.0 d) ≡ run =
                sym (get_or-map (run_of image) extents among.0 d)
                ∙ get_or_default (map (run_of image) extents) among.0 none run among.1 ∙ among.2 in
                subst (IsRun image) same (is_run image extents among.0 d so inside),
            λ is.
                let full : 0 < length run.bytes = not_empty_length run.bytes is.not_empty in
                let first : run.start + 0 ≡ run.start = omega arith in
                let some : IsSome (spec.fixed_byte image run.start) =
                subst (λ a. IsSome (spec.fixed_byte image a)) first
                (some_of (spec.fixed_byte image (run.start + 0)) (slice_get run.bytes 0) (is.fixed 0 full) (get_some run.bytes 0 full)) in
                let there = so.every run.start some in
                let same : run_of image (get_or extents there.0 d) ≡ run = is_run_of image extents run there.0 d so is there.1 (there.2 d) in
                let within : there.0 < length (map (run_of image) extents) = omega (arith, there.1, length-map extents (run_of image)) in (
                  there.0,
                  within,
                  get_or_default (map (run_of image) extents) there.0 run none within ∙ get_or-map (run_of image) extents there.0 d ∙ same,
                ),
          );
    }

extends_when : (image : spec.Image) (extents : List Extent) (i : ℕ) (o : Option Extent) → AreExtentsOf image extents → slice_get extents i ≡ o
    → MayExtend o (option_map (run_of image) o)
unfolding run_of
extends_when image extents i None so e = tt
extends_when image extents i (Some x) so e =
    let inside : i < length extents = slice_get_within extents i x e in
    let here : get_or extents i x ≡ x = some_same (get_or extents i x) x (sym (slice_get-get_or extents i x inside) ∙ e) in
    let order : x.first ≤ x.last = subst (λ y. y.first ≤ y.last) here (so.ordered i x inside) in
    record { first = refl; last = omega (arith, length-bytes_from image x.first (x.last + 1 - x.first)) }
  where
    some_same : (x y : Extent) → Some x ≡ Some y → x ≡ y
    some_same x y e = cc

pub extends_at : (image : spec.Image) (extents : List Extent) (i : ℕ) → AreExtentsOf image extents
    → MayExtend (slice_get extents i) (slice_get (map (run_of image) extents) i)
extends_at image extents i so =
    subst (MayExtend (slice_get extents i)) (sym (slice_get-map (run_of image) extents i))
    (extends_when image extents i (slice_get extents i) so refl)

-- the extents of the fixed segments of an image
pub extents_of_image : (image : spec.Image) (segments fixed : List Segment) (extents : List Extent) → image.segments ≡ map segment_of segments
    → AreFixed segments fixed → AreExtents fixed extents → AreExtentsOf image extents
unfolding spec.fixed_byte
extents_of_image image segments fixed extents e are so =
    let same : (address : ℕ) → spec.fixed_among image.segments address ≡ spec.fixed_among (map segment_of fixed) address =
    λ address. ap (λ xs. spec.fixed_among xs address) e ∙ are.same address in
    record {
      ordered = so.ordered;
      gaps = so.gaps;
      fixed = λ address inside. subst IsSome (sym (same address)) (covered_among fixed address are.in_order (so.covered address inside));
      every = λ address some. so.every address (among_covered fixed address (subst IsSome (same address) some));
    }

pub extent_is_at : (image : spec.Image) (segments fixed : List Segment) (extents : List Extent) (i : ℕ) → image.segments ≡ map segment_of segments
    → AreFixed segments fixed → AreExtents fixed extents → IsExtentAt image i (slice_get extents i)
extent_is_at image segments fixed extents i e are so =
    let of_image = extents_of_image image segments fixed extents e are so in
    record { runs = map (run_of image) extents; are_runs = are_runs image extents of_image; extents = extends_at image extents i of_image }

-- ---- the runs as the program lists them

bytes_from-suc : (image : spec.Image) (start n : ℕ)
    → bytes_from image start (suc n) ≡ bytes_from image start n ++ unwrap_or (spec.fixed_byte image (start + n)) 0 ∷ []
unfolding bytes_from
bytes_from-suc image start zero =
    let here : start ≡ start + 0 = omega arith in
    ap (λ a. unwrap_or (spec.fixed_byte image a) 0 ∷ []) here
bytes_from-suc image start (suc n) =
    let next : start + 1 + n ≡ start + suc n = omega arith in
    ap (λ xs. unwrap_or (spec.fixed_byte image start) 0 ∷ xs)
    (bytes_from-suc image (start + 1) n ∙ ap (λ a. bytes_from image (start + 1) n ++ unwrap_or (spec.fixed_byte image a) 0 ∷ []) next)

-- these are the fixed bytes at the first k addresses
pub record AreBytesBelow (image : spec.Image) (start : ℕ) (bytes : List ℕ) (k : ℕ) : Type 0 where
  pub same : bytes ≡ bytes_from image start k
  pub small : All (λ b. b < 2 ^ 8) bytes

pub no_bytes : (image : spec.Image) (start : ℕ) (bytes : List ℕ) → bytes ≡ [] → AreBytesBelow image start bytes 0
unfolding bytes_from
no_bytes image start bytes e = record { same = e; small = subst (All (λ b. b < 2 ^ 8)) (sym e) (λ k d h. absurd (omega (arith, h))) }

pub byte_pushed : (image : spec.Image) (start : ℕ) (bytes more : List ℕ) (k byte : ℕ) → AreBytesBelow image start bytes k
    → byte ≡ unwrap_or (spec.fixed_byte image (start + k)) 0 → byte < 2 ^ 8 → more ≡ bytes ++ byte ∷ [] → AreBytesBelow image start more (k + 1)
byte_pushed image start bytes more k byte so is small e = record {
  same =
      e ∙ ap (λ xs. xs ++ byte ∷ []) so.same ∙ ap (λ b. bytes_from image start k ++ b ∷ []) is ∙ sym (bytes_from-suc image start k)
      ∙ ap (bytes_from image start) (sym (add-one k));
  small = subst (All (λ b. b < 2 ^ 8)) (sym e) (All-push (λ b. b < 2 ^ 8) bytes byte so.small small);
}

abbrev HasBytes : Run → Type 0
HasBytes run = All (λ b. b < 2 ^ 8) run.bytes

-- these are the runs of the first i extents
pub record AreRunsBelow (image : spec.Image) (extents : List Extent) (runs : List KeptRun) (i : ℕ) : Type 0 where
  pub same : runs_of runs ≡ map (run_of image) (take i extents)
  pub small : All HasBytes (runs_of runs)

pub no_runs : (image : spec.Image) (extents : List Extent) → AreRunsBelow image extents [] 0
no_runs image extents = record { same = refl; small = λ k d h. absurd (omega (arith, h)) }

pub run_pushed : (image : spec.Image) (extents : List Extent) (runs : List KeptRun) (run : KeptRun) (i : ℕ) (d : Extent)
    → AreRunsBelow image extents runs i → i < length extents → run.start ≡ (get_or extents i d).first
    → run.bytes.items ≡ bytes_from image (get_or extents i d).first ((get_or extents i d).last + 1 - (get_or extents i d).first)
    → All (λ b. b < 2 ^ 8) run.bytes.items → AreRunsBelow image extents (runs ++ run ∷ []) (i + 1)
unfolding run_of
run_pushed image extents runs run i d so h start bytes small =
    let pushed : runs_of (runs ++ run ∷ []) ≡ runs_of runs ++ kept run ∷ [] = map-append kept runs (run ∷ []) in
    record {
      same =
          pushed ∙ ap (λ xs. xs ++ kept run ∷ []) so.same
          ∙ ap (λ r. map (run_of image) (take i extents) ++ r ∷ []) (run_eq (kept run) (run_of image (get_or extents i d)) start bytes)
          ∙ sym (ap (map (run_of image)) (take_more extents i d h) ∙ map-append (run_of image) (take i extents) (get_or extents i d ∷ []));
      small = subst (All HasBytes) (sym pushed) (All-push HasBytes (runs_of runs) (kept run) so.small small);
    }

pub all_runs : (image : spec.Image) (extents : List Extent) (runs : List KeptRun) (i : ℕ) → AreExtentsOf image extents
    → AreRunsBelow image extents runs i → length extents ≤ i → AreRuns image (runs_of runs)
all_runs image extents runs i so below over =
    subst (AreRuns image) (sym (below.same ∙ ap (map (run_of image)) (take_all i extents over))) (are_runs image extents so)

pub runs_of_bytes : (image : spec.Image) (extents : List Extent) (runs : List KeptRun) (i : ℕ) → AreRunsBelow image extents runs i → AreBytes (runs_of runs)
runs_of_bytes image extents runs i below = are_bytes (runs_of runs) below.small
