-- The fixed segments, collected and sorted by their addresses.
use Rattle.std.proofs.Common.{◌≡◌, ◌+◌, ◌^◌, ◌<◌, ◌≤◌, ◌∙◌, ◌&&◌, ◌==◌, ℕ, Bool, true, false, cond, not, List, [], ◌∷◌, All, AllPairs, IsPermutation, Option, Some, None, length, get_or, filter, map, ap, sym, refl, arith, subst}
use Rattle.std.specs.List.Sorted.{IsNonDecreasingBy}
use Rattle.std.specs.Option.{option_or}
use Rattle.std.proofs.lemmas.List.{length-map}
use Rattle.std.proofs.lemmas.List.Elements.{All-filter, filter_passes}
use Rattle.std.proofs.lemmas.List.Kept.{AllPairs-filter}
use Rattle.std.proofs.lemmas.List.Sorted.{All-permutation, Contains-permutation, IsPermutation-sym}
use Rattle.std.proofs.Math.ListN.{get_or-map}
use Rattle.elf_read_spec.specs.Image.{is_fixed}
use Rattle.elf_read.specs.declared.parts.Segment.{Segment}
use Rattle.elf_read.specs.Values.{segment_of}
use Rattle.elf_read.specs.Separate.{IsApart, AreSeparate, bytes_zone}
use Rattle.elf_read.specs.Fixed.{AreInOrder, AreFixed, has_fixed_bytes}
use Rattle.elf_read.proofs.Disjoint.{ends_before, flipped}
use Rattle.elf_read.proofs.Moved.{Each, each_of_pairs, each_moved}
use Rattle.elf_read.proofs.FixedBytes.{byte_of, among, among_at, among_from, no_byte}

abbrev Apart : Segment → Segment → Type 0
Apart x y = IsApart (segment_of x) (segment_of y)

pairs_apart : (segments : List Segment) → AreSeparate (map segment_of segments) → AllPairs Apart segments
pairs_apart segments separate i j d less h =
    subst (λ s. IsApart s (segment_of (get_or segments j d))) (get_or-map segment_of segments i d)
    (subst (λ s. IsApart (get_or (map segment_of segments) i (segment_of d)) s) (get_or-map segment_of segments j d)
    (separate.pairs i j (segment_of d) less (omega (arith, length-map segments segment_of))))

in_space : (segments : List Segment) → AreSeparate (map segment_of segments) → All (λ s. s.vaddr + length s.bytes.now ≤ 2 ^ 32) segments
in_space segments separate i d h =
    subst (λ s. s.vaddr + length s.bytes ≤ 2 ^ 32) (get_or-map segment_of segments i d)
    (separate.in_space i (segment_of d) (omega (arith, length-map segments segment_of)))

-- the segments that are left out have no fixed byte
among_kept : (segments : List Segment) (address : ℕ) → among (filter has_fixed_bytes segments) address ≡ among segments address
among_kept [] address = refl
among_kept (s ∷ rest) address = kept_with (has_fixed_bytes s) refl (among_kept rest address)
  where
    kept_with : (b : Bool) → has_fixed_bytes s ≡ b → among (filter has_fixed_bytes rest) address ≡ among rest address
        → among (cond b (s ∷ filter has_fixed_bytes rest) (filter has_fixed_bytes rest)) address ≡ among (s ∷ rest) address
    kept_with true e later = ap (λ o. option_or (byte_of s address) o) later
    kept_with false e later = later ∙ ap (λ o. option_or o (among rest address)) (sym (no_byte s address e))

same_option : {X : Type 0} (one two : Option X) → ((x : X) → one ≡ Some x → two ≡ Some x) → ((x : X) → two ≡ Some x → one ≡ Some x) → one ≡ two
same_option None None there back = refl
same_option None (Some x) there back = back x refl
same_option (Some x) two there back = sym (there x refl)

-- segments that are apart have the same bytes in each order
among_moved : (xs ys : List Segment) (address : ℕ) → Each Apart xs → Each Apart ys → IsPermutation xs ys → among xs address ≡ among ys address
among_moved xs ys address one two moved =
    same_option (among xs address) (among ys address)
    (λ b e. let s = among_from xs address b e in among_at ys s.0 address b two (Contains-permutation xs ys s.0 moved s.1) s.2)
    (λ b e.
    let s = among_from ys address b e in
    among_at xs s.0 address b one (Contains-permutation ys xs s.0 (IsPermutation-sym xs ys moved) s.1) s.2)

unwritable_when : (s : Segment) (fixed : Bool) → (fixed && not (length s.bytes.now == 0)) ≡ true → fixed ≡ true
unwritable_when s true e = refl
unwritable_when s false e = absurd cc

full_when : (s : Segment) → has_fixed_bytes s ≡ true → 0 < length s.bytes.now
full_when s e = grind arith

-- the fixed segments with bytes, sorted by their addresses, hold the fixed bytes
pub are_fixed : (segments fixed : List Segment) → AreSeparate (map segment_of segments) → IsPermutation (filter has_fixed_bytes segments) fixed
    → IsNonDecreasingBy (λ s. s.vaddr) fixed → AreFixed segments fixed
are_fixed segments fixed separate moved rises =
    let kept = filter has_fixed_bytes segments in
    let before : Each Apart kept =
    each_of_pairs Apart (λ x y apart. flipped (bytes_zone (segment_of x)) (bytes_zone (segment_of y)) apart) kept
    (AllPairs-filter Apart has_fixed_bytes segments (pairs_apart segments separate)) in
    let after : Each Apart fixed = each_moved Apart kept fixed moved before in
    let keeps : All (λ s. has_fixed_bytes s ≡ true) fixed =
    All-permutation (λ s. has_fixed_bytes s ≡ true) kept fixed moved (filter_passes has_fixed_bytes segments) in
    let full : All (λ s. 0 < length s.bytes.now) fixed = λ k d h. full_when (get_or fixed k d) (keeps k d h) in
    record {
      in_order = record {
        rising =
            λ i j d less h.
            let first : (get_or fixed i d).vaddr ≤ (get_or fixed j d).vaddr = rises i j d (omega arith) h in
            let some : 0 < length (get_or fixed j d).bytes.now = full j d h in
            ends_before (bytes_zone (segment_of (get_or fixed i d))) (bytes_zone (segment_of (get_or fixed j d)))
            (after i j d (λ e. omega arith) (omega arith) h) first (omega arith);
        full = full;
        in_space =
            All-permutation (λ s. s.vaddr + length s.bytes.now ≤ 2 ^ 32) kept fixed moved
            (All-filter has_fixed_bytes (λ s. s.vaddr + length s.bytes.now ≤ 2 ^ 32) segments (in_space segments separate));
        unwritable = λ k d h. unwritable_when (get_or fixed k d) (is_fixed (segment_of (get_or fixed k d))) (keeps k d h);
      };
      same = λ address. sym (among_kept segments address) ∙ among_moved kept fixed address before after moved;
    }

-- the segments begin one after the other
pub starts_rise : (fixed : List Segment) → AreInOrder fixed → AllPairs (λ x y. x.vaddr ≤ y.vaddr) fixed
starts_rise fixed in_order i j d less h =
    let ends : (get_or fixed i d).vaddr + length (get_or fixed i d).bytes.now ≤ (get_or fixed j d).vaddr = in_order.rising i j d less h in
    omega arith
