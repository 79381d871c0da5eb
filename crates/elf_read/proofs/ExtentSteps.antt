-- The extents of the runs of fixed bytes, collected in the order of the segments.
use Rattle.std.proofs.Common.{◌≡◌, ◌≢◌, ◌+◌, ◌-◌, ◌<◌, ◌≤◌, ◌++◌, ◌∙◌, ◌⊎◌, inl, inr, ℕ, List, [], ◌∷◌, All, AllPairs, length, length-append, get_or, set, ap, sym, refl, arith, subst}
use Rattle.std.proofs.Math.Nat.{eq-or-lt_of_le}
use Rattle.std.proofs.lemmas.Bool.Decides.{leb_tells}
use Rattle.std.proofs.lemmas.List.{get_or_default, get_or_push, get_or_append_left, get_or-set_same, get_or-set_other, length-set}
use Rattle.std.proofs.lemmas.List.Elements.{All-push, All-set}
use Rattle.std.proofs.lemmas.List.Quantifiers.{all_pairs_push}
use Rattle.elf_read.specs.declared.parts.Segment.{Segment}
use Rattle.elf_read.specs.declared.parts.Extent.{Extent}
use Rattle.elf_read.specs.Values.{segment_of}
use Rattle.elf_read.specs.Separate.{Covers}
use Rattle.elf_read.specs.Fixed.{AreInOrder}
use Rattle.elf_read.specs.Extents.{IsInside, IsIn, AreExtents, EndsBefore}

-- an address of the bytes of one of the first i segments
abbrev pub IsCoveredBelow : List Segment → (i address : ℕ) → Type 0
IsCoveredBelow segments i address = (k : ℕ) × (k < i) × ((d : Segment) → Covers (segment_of (get_or segments k d)) address)

-- the extents of the first i segments, which end before the others
pub record AreExtentsBelow (segments : List Segment) (extents : List Extent) (i : ℕ) : Type 0 where
  pub ordered : All (λ e. e.first ≤ e.last) extents
  pub gaps : AllPairs (λ x y. x.last + 1 < y.first) extents
  pub covered : (address : ℕ) → IsIn extents address → IsCoveredBelow segments i address
  pub every : (address : ℕ) → IsCoveredBelow segments i address → IsIn extents address
  pub reaches : (j : ℕ) (d : Segment) → i ≤ j → j < length segments → All (λ e. e.last < (get_or segments j d).vaddr) extents

-- the extent of a segment
pub record IsExtentOf (segment : Segment) (extent : Extent) : Type 0 where
  pub full : 0 < length segment.bytes.now
  pub first : extent.first ≡ segment.vaddr
  pub last : extent.last + 1 ≡ segment.vaddr + length segment.bytes.now

inside_covers : (p : Segment) (e : Extent) (address : ℕ) → IsExtentOf p e → IsInside e address → Covers (segment_of p) address
inside_covers p e address is inside = record {
  from = omega (arith, is.first, inside.from);
  below = omega (arith, is.last, inside.to);
}

covers_inside : (p : Segment) (e : Extent) (address : ℕ) → IsExtentOf p e → Covers (segment_of p) address → IsInside e address
covers_inside p e address is covers = record {
  from = omega (arith, is.first, covers.from);
  to = omega (arith, is.last, covers.below);
}

older : (segments : List Segment) (i address : ℕ) → IsCoveredBelow segments i address → IsCoveredBelow segments (i + 1) address
older segments i address covered = (covered.0, omega (arith, covered.1), covered.2)

newest : (segments : List Segment) (i address : ℕ) (d : Segment) → i < length segments → Covers (segment_of (get_or segments i d)) address
    → IsCoveredBelow segments (i + 1) address
newest segments i address d h covers =
    (i, omega arith, λ e. subst (λ s. Covers (segment_of s) address) (get_or_default segments i d e h) covers)

-- an address of one of the first i + 1 segments is one of the last of them, or of those before it
apart_last : (segments : List Segment) (i address : ℕ) (d : Segment) → IsCoveredBelow segments (i + 1) address
    → IsCoveredBelow segments i address ⊎ Covers (segment_of (get_or segments i d)) address
apart_last segments i address d covered =
    let within : covered.0 ≤ i = omega (arith, covered.1) in
    elim (eq-or-lt_of_le within) [
      | inl e ↦ inr (subst (λ n. Covers (segment_of (get_or segments n d)) address) e (covered.2 d))
      | inr w ↦ inl (covered.0, w, covered.2)
    ]

in_pushed : (extents : List Extent) (e : Extent) (address : ℕ) → IsIn extents address → IsIn (extents ++ e ∷ []) address
in_pushed extents e address inside = (
  inside.0,
  omega (arith, inside.1, length-append extents (e ∷ [])),
  λ d. subst (λ x. IsInside x address) (sym (get_or_append_left extents (e ∷ []) d inside.0 inside.1)) (inside.2 d),
)

at_pushed : (extents : List Extent) (e : Extent) (address : ℕ) → IsInside e address → IsIn (extents ++ e ∷ []) address
at_pushed extents e address inside = (
  length extents,
  omega (arith, length-append extents (e ∷ [])),
  λ d. subst (λ x. IsInside x address) (sym (get_or_push extents e d (length extents) refl)) inside,
)

of_pushed : (extents : List Extent) (e : Extent) (address : ℕ) → IsIn (extents ++ e ∷ []) address → IsIn extents address ⊎ IsInside e address
of_pushed extents e address inside =
    let within : inside.0 ≤ length extents = omega (arith, inside.1, length-append extents (e ∷ [])) in
    elim (eq-or-lt_of_le within) [
      | inl same ↦ inr (subst (λ x. IsInside x address) (get_or_push extents e e inside.0 (sym same)) (inside.2 e))
      | inr w ↦ inl (inside.0, w, λ d. subst (λ x. IsInside x address) (get_or_append_left extents (e ∷ []) d inside.0 w) (inside.2 d))
    ]

-- an extent that does not touch the last one is one of its own
gap_before : (segments : List Segment) (extents : List Extent) (i : ℕ) (d : Segment) (e : Extent) → AreExtentsBelow segments extents i
    → i < length segments → IsExtentOf (get_or segments i d) e → (EndsBefore extents e.first → ⊥) → (k : ℕ) (x : Extent)
    → k < length extents → (get_or extents k x).last + 1 < e.first
gap_before segments extents i d e so h is apart k x within =
    let below : (get_or extents k x).last < (get_or segments i d).vaddr = so.reaches i d (omega arith) h k x within in
    let at_end : k + 1 ≡ length extents → (get_or extents k x).last + 1 ≡ e.first → ⊥ =
    λ last touches.
    apart (
      omega arith,
      λ y.
          subst (λ n. (get_or extents n y).last + 1 ≡ e.first) (omega (arith, last))
          (subst (λ z. z.last + 1 ≡ e.first) (get_or_default extents k x y within) touches),
    ) in
    let end : k + 1 ≤ length extents = omega arith in
    elim (eq-or-lt_of_le end) [
      | inl last ↦ let apart_there : (get_or extents k x).last + 1 ≢ e.first = at_end last in omega (arith, is.first)
      | inr before ↦
          let gap : (get_or extents k x).last + 1 < (get_or extents (k + 1) x).first = so.gaps k (k + 1) x (omega arith) before in
          let order : (get_or extents (k + 1) x).first ≤ (get_or extents (k + 1) x).last = so.ordered (k + 1) x before in
          let next : (get_or extents (k + 1) x).last < (get_or segments i d).vaddr = so.reaches i d (omega arith) h (k + 1) x before in
          omega (arith, is.first)
    ]

pub extent_pushed : (segments : List Segment) (extents : List Extent) (i : ℕ) (d : Segment) (e : Extent) → AreInOrder segments
    → AreExtentsBelow segments extents i → i < length segments → IsExtentOf (get_or segments i d) e → (EndsBefore extents e.first → ⊥)
    → AreExtentsBelow segments (extents ++ e ∷ []) (i + 1)
extent_pushed segments extents i d e in_order so h is apart = record {
  ordered = All-push (λ x. x.first ≤ x.last) extents e so.ordered (omega (arith, is.full, is.first, is.last));
  gaps = all_pairs_push (λ x y. x.last + 1 < y.first) extents e so.gaps (gap_before segments extents i d e so h is apart);
  covered =
      λ address inside.
      elim (of_pushed extents e address inside) [
        | inl old ↦ older segments i address (so.covered address old)
        | inr new ↦ newest segments i address d h (inside_covers (get_or segments i d) e address is new)
      ];
  every =
      λ address covered.
      elim (apart_last segments i address d covered) [
        | inl old ↦ in_pushed extents e address (so.every address old)
        | inr new ↦ at_pushed extents e address (covers_inside (get_or segments i d) e address is new)
      ];
  reaches =
      λ j f from within.
      let ends : (get_or segments i f).vaddr + length (get_or segments i f).bytes.now ≤ (get_or segments j f).vaddr =
      in_order.rising i j f (omega arith) within in
      let same : get_or segments i d ≡ get_or segments i f = get_or_default segments i d f h in
      let there : IsExtentOf (get_or segments i f) e = subst (λ s. IsExtentOf s e) same is in
      All-push (λ x. x.last < (get_or segments j f).vaddr) extents e (so.reaches j f (omega arith) within) (omega (arith, there.last));
}

-- the last extent, up to where the next segment ends
pub record IsJoined (extents : List Extent) (e q : Extent) (n : ℕ) : Type 0 where
  pub last_place : n + 1 ≡ length extents
  pub touches : (x : Extent) → (get_or extents n x).last + 1 ≡ e.first
  pub first : (x : Extent) → q.first ≡ (get_or extents n x).first
  pub last : q.last ≡ e.last

in_others : (extents : List Extent) (q : Extent) (n k address : ℕ) → k < n → n < length extents → ((d : Extent) → IsInside (get_or extents k d) address)
    → IsIn (set extents n q) address
in_others extents q n k address less h inside = (
  k,
  omega (arith, length-set extents n q),
  λ d. subst (λ x. IsInside x address) (sym (get_or-set_other extents n k q d (omega arith))) (inside d),
)

in_joined : (extents : List Extent) (q : Extent) (n address : ℕ) → n < length extents → IsInside q address → IsIn (set extents n q) address
in_joined extents q n address h inside =
    (n, omega (arith, length-set extents n q), λ d. subst (λ x. IsInside x address) (sym (get_or-set_same extents n q d h)) inside)

of_joined : (extents : List Extent) (e q : Extent) (n address : ℕ) → IsJoined extents e q n → IsIn (set extents n q) address
    → IsIn extents address ⊎ IsInside e address
of_joined extents e q n address joined inside =
    let within : inside.0 ≤ n = omega (arith, inside.1, length-set extents n q, joined.last_place) in
    let there : n < length extents = omega (arith, joined.last_place) in
    elim (eq-or-lt_of_le within) [
      | inl same ↦
          let here : IsInside q address =
          subst (λ x. IsInside x address) (get_or-set_same extents n q q there)
          (subst (λ m. IsInside (get_or (set extents n q) m q) address) same (inside.2 q)) in
          elim (leb_tells e.first address) [
            | inl above ↦ inr (record { from = above.1; to = omega (arith, here.to, joined.last) })
            | inr below ↦
                inl (n, there, λ d. record { from = omega (arith, here.from, joined.first d); to = omega (arith, below.1, joined.touches d) })
          ]
      | inr less ↦
          inl (
            inside.0,
            omega arith,
            λ d. subst (λ x. IsInside x address) (get_or-set_other extents n inside.0 q d (omega arith)) (inside.2 d),
          )
    ]

pub extent_joined : (segments : List Segment) (extents : List Extent) (i n : ℕ) (d : Segment) (e q : Extent) → AreInOrder segments
    → AreExtentsBelow segments extents i → i < length segments → IsExtentOf (get_or segments i d) e → IsJoined extents e q n
    → AreExtentsBelow segments (set extents n q) (i + 1)
extent_joined segments extents i n d e q in_order so h is joined =
    let there : n < length extents = omega (arith, joined.last_place) in
    let order : (get_or extents n q).first ≤ (get_or extents n q).last = so.ordered n q there in
    let first : q.first ≡ (get_or extents n q).first = joined.first q in
    let touches : (get_or extents n q).last + 1 ≡ e.first = joined.touches q in
    let extent_order : e.first ≤ e.last = omega (arith, is.full, is.first, is.last) in
    record {
      ordered = All-set (λ x. x.first ≤ x.last) extents n q (omega (arith, joined.last)) so.ordered;
      gaps =
          λ a b x less within.
          let inside : b < length extents = omega (arith, length-set extents n q) in
          let before : a < n = omega (arith, joined.last_place) in
          let upto : b ≤ n = omega (arith, joined.last_place) in
          let head_and_rest : get_or (set extents n q) a x ≡ get_or extents a x = get_or-set_other extents n a q x (omega arith) in
          subst (λ y. y.last + 1 < (get_or (set extents n q) b x).first) (sym head_and_rest)
          (elim (eq-or-lt_of_le upto) [
            | inl same ↦
                let gap : (get_or extents a x).last + 1 < (get_or extents n x).first = so.gaps a n x before there in
                let here : get_or (set extents n q) b x ≡ q =
                ap (λ m. get_or (set extents n q) m x) same ∙ get_or-set_same extents n q x there in
                subst (λ y. (get_or extents a x).last + 1 < y.first) (sym here) (omega (arith, joined.first x))
            | inr lower ↦
                subst (λ y. (get_or extents a x).last + 1 < y.first) (sym (get_or-set_other extents n b q x (omega arith))) (so.gaps a b x less inside)
          ]);
      covered =
          λ address inside.
          elim (of_joined extents e q n address joined inside) [
            | inl old ↦ older segments i address (so.covered address old)
            | inr new ↦ newest segments i address d h (inside_covers (get_or segments i d) e address is new)
          ];
      every =
          λ address covered.
          elim (apart_last segments i address d covered) [
            | inl old ↦
                let inside = so.every address old in
                let upto : inside.0 ≤ n = omega (arith, inside.1, joined.last_place) in
                elim (eq-or-lt_of_le upto) [
                  | inl same ↦
                      let here : IsInside (get_or extents n q) address = subst (λ m. IsInside (get_or extents m q) address) same (inside.2 q) in
                      in_joined extents q n address there (record { from = omega (arith, here.from); to = omega (arith, here.to, joined.last) })
                  | inr less ↦ in_others extents q n inside.0 address less there inside.2
                ]
            | inr new ↦
                let here = covers_inside (get_or segments i d) e address is new in
                in_joined extents q n address there (record { from = omega (arith, here.from); to = omega (arith, here.to, joined.last) })
          ];
      reaches =
          λ j f from within.
          let ends : (get_or segments i f).vaddr + length (get_or segments i f).bytes.now ≤ (get_or segments j f).vaddr =
          in_order.rising i j f (omega arith) within in
          let same : get_or segments i d ≡ get_or segments i f = get_or_default segments i d f h in
          let last : IsExtentOf (get_or segments i f) e = subst (λ s. IsExtentOf s e) same is in
          All-set (λ x. x.last < (get_or segments j f).vaddr) extents n q (omega (arith, last.last, joined.last)) (so.reaches j f (omega arith) within);
    }

-- the extents of all segments
pub extents_whole : (segments : List Segment) (extents : List Extent) (i : ℕ) → i ≡ length segments → AreExtentsBelow segments extents i
    → AreExtents segments extents
extents_whole segments extents i all so = record {
  ordered = so.ordered;
  gaps = so.gaps;
  covered = λ address inside. subst (λ n. IsCoveredBelow segments n address) all (so.covered address inside);
  every = λ address covered. so.every address (subst (λ n. IsCoveredBelow segments n address) (sym all) covered);
}

pub joined_last : (extents : List Extent) (e r : Extent) (count : ℕ) → EndsBefore extents e.first → count ≡ length extents
    → r ≡ get_or extents (count - 1) r → IsJoined extents e (record { first = r.first; last = e.last }) (count - 1)
joined_last extents e r count ends count_is r_is =
    let last : length extents - 1 ≡ count - 1 = omega arith in
    record {
      last_place = omega (arith, ends.0);
      touches = λ x. subst (λ n. (get_or extents n x).last + 1 ≡ e.first) last (ends.1 x);
      first = λ x. ap (λ y. y.first) (r_is ∙ get_or_default extents (count - 1) r x (omega (arith, ends.0)));
      last = refl;
    }
