-- What is read of a file without a fault is its image.
use Rattle.std.proofs.Common.{◌≡◌, ◌+◌, ◌^◌, ◌<◌, ◌≤◌, ℕ, List, All, Contains, Some, length, get_or, map, drop, arith, refl, sym, subst, ◌∙◌}
use Rattle.std.proofs.lemmas.List.{get_or_default, length-take, length-map}
use Rattle.std.proofs.Math.ListN.{get_or-map}
use Rattle.elf_read_spec.specs.declared.ElfKind.{ElfKind}
use Rattle.elf_read_spec.specs.declared.ElfKind.TheVariants.{SegmentRange, SegmentOverlap}
use Rattle.memory_spec.specs.Zones.{InZone}
use Rattle.elf_read_spec.specs.Image.{Image, Segment, Symbol}
use Rattle.elf_read_spec.specs.File as spec
use Rattle.elf_read.specs.Offsets.{IsRising}
use Rattle.elf_read.specs.Separate.{Covers, IsApart, AreSeparate}

within_loads : (bytes loads : List ℕ) (k : ℕ) → loads ≡ spec.loads bytes → k < length loads → Contains (spec.loads bytes) (get_or loads k 0)
within_loads bytes loads k e h = subst (λ xs. Contains xs (get_or loads k 0)) e (k, h, get_or_default loads k (get_or loads k 0) 0 h)

pub placed_loads : (bytes loads : List ℕ) → loads ≡ spec.loads bytes → ((kind : ElfKind) (at : ℕ) → spec.Keeps bytes kind at)
    → All (spec.IsPlaced bytes) loads
placed_loads bytes loads e kept k d h =
    subst (spec.IsPlaced bytes) (get_or_default loads k 0 d h) (kept SegmentRange (get_or loads k 0) (within_loads bytes loads k e h))

long_bytes : (bytes : List ℕ) (at : ℕ) → spec.IsPlaced bytes at → length (spec.segment_at bytes at).bytes ≤ spec.u32_at bytes (at + 20)
long_bytes bytes at placed =
    omega (arith, length-take (spec.u32_at bytes (at + 16)) (drop (spec.u32_at bytes (at + 4)) bytes), placed.sizes)

in_memory : (bytes : List ℕ) (at address : ℕ) → spec.IsPlaced bytes at → Covers (spec.segment_at bytes at) address
    → InZone (spec.memory_of bytes at) address
in_memory bytes at address placed covers = record {
  from = covers.from;
  below = omega (arith, long_bytes bytes at placed, covers.below);
}

apart_segments : (bytes : List ℕ) (one other : ℕ) → spec.IsPlaced bytes one → spec.IsPlaced bytes other → spec.AreApart bytes one other
    → IsApart (spec.segment_at bytes one) (spec.segment_at bytes other)
apart_segments bytes one other x y apart = record {
  apart = λ address p q. apart.apart address (in_memory bytes one address x p) (in_memory bytes other address y q);
}

pub separate_segments : (bytes loads : List ℕ) → loads ≡ spec.loads bytes → IsRising loads
    → ((kind : ElfKind) (at : ℕ) → spec.Keeps bytes kind at) → AreSeparate (map (spec.segment_at bytes) loads)
separate_segments bytes loads e rising kept =
    let placed : (k : ℕ) → k < length loads → spec.IsPlaced bytes (get_or loads k 0) = λ k h. placed_loads bytes loads e kept k 0 h in
    let at : (k : ℕ) (d : Segment) → k < length loads → spec.segment_at bytes (get_or loads k 0) ≡ get_or (map (spec.segment_at bytes) loads) k d =
    λ k d h.
    let inside : k < length (map (spec.segment_at bytes) loads) = omega (arith, length-map loads (spec.segment_at bytes)) in
    sym (get_or_default (map (spec.segment_at bytes) loads) k d (spec.segment_at bytes 0) inside ∙ get_or-map (spec.segment_at bytes) loads k 0)
    in
    record {
      pairs =
          λ i j d less h.
          let inside : j < length loads = omega (arith, length-map loads (spec.segment_at bytes)) in
          let before : i < length loads = omega arith in
          subst (λ s. IsApart s (get_or (map (spec.segment_at bytes) loads) j d)) (at i d before)
          (subst (λ s. IsApart (spec.segment_at bytes (get_or loads i 0)) s) (at j d inside)
          (apart_segments bytes (get_or loads i 0) (get_or loads j 0) (placed i before) (placed j inside)
          (kept SegmentOverlap (get_or loads j 0) (within_loads bytes loads j e inside) (get_or loads i 0) (within_loads bytes loads i e before)
          (rising i j less inside))));
      in_space =
          λ k d h.
          let inside : k < length loads = omega (arith, length-map loads (spec.segment_at bytes)) in
          subst (λ s. s.vaddr + length s.bytes ≤ 2 ^ 32) (at k d inside)
          (omega (arith, long_bytes bytes (get_or loads k 0) (placed k inside), (placed k inside).in_space));
    }

pub is_elf : (bytes : List ℕ) (image : Image) (table : ℕ) (segments : List Segment) (symbols : List Symbol)
    → ((kind : ElfKind) (at : ℕ) → spec.Keeps bytes kind at) → spec.symbol_table bytes ≡ Some table
    → segments ≡ map (spec.segment_at bytes) (spec.loads bytes) → symbols ≡ spec.defined_symbols bytes (Some table)
    → image ≡ record { segments = segments; symbols = symbols } → spec.IsElf bytes image
unfolding spec.image_of
is_elf bytes image table segments symbols kept there segments_are symbols_are image_is = record {
  accepted = kept;
  image_is =
      image_is ∙ rw (segments_are, symbols_are, there) refl;
}
