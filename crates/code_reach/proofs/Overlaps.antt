-- Ranges that meet, of entries in order.
use Rattle.std.proofs.Common.{◌≡◌, ◌⊎◌, ◌+◌, ◌<◌, ◌≤◌, ◌^◌, ℕ, List, length, get_or, max, refl, sym, ap, subst, inl, inr, arith}
use Rattle.std.specs.Prelude.{Some}
use Rattle.std.specs.List.Sorted.{IsStrictlyIncreasing}
use Rattle.std.proofs.lemmas.Bool.{cases_lt}
use Rattle.std.proofs.lemmas.Map.Keys.{below_from_sorted, sorted_from_strictly_increasing, non_decreasing_from_sorted}
use Rattle.elf_read_spec.specs.Image.{Image, size_at}
use Rattle.code_reach_spec.specs.declared.CodeKind.{CodeKind}
use Rattle.code_reach_spec.specs.declared.CodeKind.TheVariants.{Overlap}
use Rattle.code_reach_spec.specs.Faults.{IsFirst, rank}
use Rattle.code_reach.specs.Surveys.{OverlapsAt, IsOverlap}

-- a range of one of the first so many ends there
pub record EndsAt (image : Image) (entries : List ℕ) (index end : ℕ) : Type 0 where
  pub before : ℕ
  pub below : before < index
  pub size : ℕ
  pub size_is : size_at image (get_or entries before 0) ≡ Some size
  pub end_is : end ≡ get_or entries before 0 + size

-- none of the first so many ranges meet, and the greatest end of theirs
pub record IsSwept (image : Image) (entries : List ℕ) (index end : ℕ) : Type 0 where
  pub fits : end ≤ 2 ^ 33
  pub above : (k size : ℕ) → k < index → size_at image (get_or entries k 0) ≡ Some size → get_or entries k 0 + size ≤ end
  pub reached : (end ≡ 0) ⊎ EndsAt image entries index end
  pub apart : (k : ℕ) → k < index → OverlapsAt image entries k → ⊥

module _ (image : Image) (entries : List ℕ) where
  pub swept-none : IsSwept image entries 0 0
  swept-none = record {
    fits = omega arith;
    above = λ k size below is. absurd (omega (arith, below));
    reached = inl refl;
    apart = λ k below o. omega (arith, below);
  }

  split : (index k : ℕ) → k < index + 1 → (k < index) ⊎ (k ≡ index)
  split index k below = grind (arith, below)

  same_size : (at size other : ℕ) → size_at image at ≡ Some size → size_at image at ≡ Some other → other ≡ size
  same_size at size other e f = cc

  -- the range at the next place meets one before it exactly if it isn't empty and begins below the end
  pub not-met : (index end size : ℕ) → IsSwept image entries index end → size_at image (get_or entries index 0) ≡ Some size
      → ((0 < size) × (get_or entries index 0 < end) → ⊥) → OverlapsAt image entries index → ⊥
  not-met index end size so_far is never o =
      let reaches = so_far.above o.before o.size o.below o.size_is in
      let own = same_size (get_or entries index 0) size o.own_size is o.own_size_is in
      never (omega (arith, own, o.meet.in_other.from, o.meet.in_other.below), omega (arith, reaches, o.meet.in_one.below, o.meet.in_other.from))

  module _ (rising : IsStrictlyIncreasing entries) where
    lower : (i j : ℕ) → i < j → j < length entries → get_or entries i 0 < get_or entries j 0
    lower i j before below = below_from_sorted entries i j 0 (sorted_from_strictly_increasing entries rising) before below

    pub met : (index end size : ℕ) → IsSwept image entries index end → index < length entries → size_at image (get_or entries index 0) ≡ Some size
        → 0 < size → get_or entries index 0 < end → OverlapsAt image entries index
    met index end size so_far inside is above begins = at so_far.reached
      where
        at : (end ≡ 0) ⊎ EndsAt image entries index end → OverlapsAt image entries index
        at (inl none) = absurd (omega (arith, none, begins))
        at (inr e) = record {
          before = e.before;
          below = e.below;
          size = e.size;
          size_is = e.size_is;
          own_size = size;
          own_size_is = is;
          meet = record {
            address = get_or entries index 0;
            in_one = record { from = omega (arith, lower e.before index e.below inside); below = omega (arith, e.end_is, begins) };
            in_other = record { from = omega arith; below = omega (arith, above) };
          };
        }

    pub first-met : (index end size : ℕ) → IsSwept image entries index end → index < length entries → size_at image (get_or entries index 0) ≡ Some size
        → 0 < size → get_or entries index 0 < end → IsFirst (IsOverlap image entries) Overlap (get_or entries index 0)
    first-met index end size so_far inside is above begins = record {
      fault = record { kind_is = refl; index = index; among = inside; entry_is = refl; overlaps = met index end size so_far inside is above begins };
      lowest = λ k a o. lowest a o.index o.among o.entry_is o.overlaps;
      least = λ k o. least k o.kind_is;
    }
      where
        following : (k : ℕ) → OverlapsAt image entries k → (k < index) ⊎ (index ≤ k) → index ≤ k
        following k o (inl before) = absurd (so_far.apart k before o)
        following k o (inr after) = after

        lowest : (a k : ℕ) → k < length entries → a ≡ get_or entries k 0 → OverlapsAt image entries k → get_or entries index 0 ≤ a
        lowest a k among e o =
            let order = non_decreasing_from_sorted entries (sorted_from_strictly_increasing entries rising) index k 0
            (following k o (cases_lt k index)) among in
            omega (arith, order, e)

        least : (k : CodeKind) → k ≡ Overlap → rank Overlap ≤ rank k
        least k e = subst (λ z. rank Overlap ≤ rank z) (sym e) (omega arith)

  pub swept-more : (index end size : ℕ) → IsSwept image entries index end → size_at image (get_or entries index 0) ≡ Some size
      → get_or entries index 0 < 2 ^ 32 → size < 2 ^ 32 → ((0 < size) × (get_or entries index 0 < end) → ⊥)
      → IsSwept image entries (index + 1) (max end (get_or entries index 0 + size))
  swept-more index end size so_far is low small never = record {
    fits = omega (arith, so_far.fits, low, small);
    above = λ k other below e. elim (split index k below) [
      | inl before ↦ omega (arith, so_far.above k other before e)
      | inr here ↦ omega (arith, ap (λ i. get_or entries i 0) here, same_size (get_or entries index 0) size other is (subst (λ i. size_at image (get_or entries i 0) ≡ Some other) here e))
    ];
    reached = at (cases_lt end (get_or entries index 0 + size));
    apart = λ k below o. elim (split index k below) [
      | inl before ↦ so_far.apart k before o
      | inr here ↦ not-met index end size so_far is never (subst (OverlapsAt image entries) here o)
    ];
  }
    where
      keep : (x : ℕ) → x ≤ end → (end ≡ 0) ⊎ EndsAt image entries index end → (max end x ≡ 0) ⊎ EndsAt image entries (index + 1) (max end x)
      keep x l (inl none) = inl (omega (arith, none, l))
      keep x l (inr e) = inr (record { before = e.before; below = omega (arith, e.below); size = e.size; size_is = e.size_is; end_is = omega (arith, e.end_is, l) })

      at : (end < get_or entries index 0 + size) ⊎ (get_or entries index 0 + size ≤ end) → (max end (get_or entries index 0 + size) ≡ 0) ⊎ EndsAt image entries (index + 1) (max end (get_or entries index 0 + size))
      at (inl further) = inr (record { before = index; below = omega arith; size = size; size_is = is; end_is = omega (arith, further) })
      at (inr within) = keep (get_or entries index 0 + size) within so_far.reached
