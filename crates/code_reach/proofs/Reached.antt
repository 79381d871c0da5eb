-- The faults of all that is reached, and what is answered of it.
use Rattle.std.proofs.Common.{◌≡◌, ◌⊎◌, ◌<◌, ◌≤◌, ℕ, List, length, get_or, refl, sym, ◌∙◌, subst, inl, inr, arith}
use Rattle.std.specs.Prelude.{nat_eq, Option, Some, IsSome, Contains, IsSorted, IsPermutation}
use Rattle.std.specs.Ordering.{nat_cmp}
use Rattle.std.specs.List.{IsDistinct}
use Rattle.std.specs.List.Sorted.{IsStrictlyIncreasing}
use Rattle.std.proofs.lemmas.Bool.{cases_lt}
use Rattle.std.proofs.lemmas.List.{get_or_default}
use Rattle.std.proofs.lemmas.List.Elements.{Contains-get_or}
use Rattle.std.proofs.lemmas.List.Sorted.{IsNonDecreasingBy-from_sort, IsPermutation-sym, Contains-permutation, All-permutation}
use Rattle.std.proofs.lemmas.Map.Keys.{IsStrictlyIncreasing-from_distinct, below_from_sorted, sorted_from_strictly_increasing, non_decreasing_from_sorted}
use Rattle.elf_read_spec.specs.Image.{Image, size_at}
use Rattle.code_reach_spec.specs.declared.CodeKind.{CodeKind}
use Rattle.code_reach_spec.specs.declared.CodeKind.TheVariants.{Overlap}
use Rattle.code_reach_spec.specs.Code.{Reaches}
use Rattle.code_reach_spec.specs.Faults.{RangesMeet, IsReachFault, of_function, overlap, ReachesNoFault}
use Rattle.code_reach.specs.Surveys.{AnyHasFault, OverlapsAt, IsOverlap, IsFirstOf, AreEntries, earlier}
use Rattle.code_reach.specs.Found.{IsReach}
use Rattle.code_reach.specs.declared.faults.CodeFault.{CodeFault}
use Rattle.code_reach.proofs.Firsts.{first_of-as, first-earlier}

pub increasing : (items : List ℕ) → IsSorted nat_cmp items → IsDistinct nat_eq items → IsStrictlyIncreasing items
increasing items sorted distinct = IsStrictlyIncreasing-from_distinct items (IsNonDecreasingBy-from_sort (λ x. x) items sorted) distinct

module _ (image : Image) (entry : ℕ) where
  pub entries-moved : (old new : List ℕ) → AreEntries image entry old → IsPermutation old new → AreEntries image entry new
  entries-moved old new are moved = record {
    exactly = λ a. (
      λ among. (are.exactly a).0 (Contains-permutation new old a (IsPermutation-sym old new moved) among),
      λ reached. Contains-permutation old new a moved ((are.exactly a).1 reached),
    );
    sized = All-permutation (λ other. IsSome (size_at image other)) old new moved are.sized;
  }

  module _ (items : List ℕ) (are : AreEntries image entry items) (rising : IsStrictlyIncreasing items) where
    -- the place of an entry that is reached
    record PlaceOf (other : ℕ) : Type 0 where
      index : ℕ
      among : index < length items
      there : get_or items index 0 ≡ other

    place-in : (other : ℕ) → Reaches image entry other → PlaceOf other
    place-in other reached = at ((are.exactly other).1 reached)
      where
        at : Contains items other → PlaceOf other
        at (k, below, here) = record { index = k; among = below; there = sym (get_or_default items k other 0 below) ∙ here }

    reached-at : (k : ℕ) → k < length items → Reaches image entry (get_or items k 0)
    reached-at k below = (are.exactly (get_or items k 0)).0 (Contains-get_or items k 0 below)

    before-in : (i j : ℕ) → i < length items → get_or items i 0 < get_or items j 0 → (i < j) ⊎ (j ≤ i) → i < j
    before-in i j among lower (inl before) = before
    before-in i j among lower (inr after) =
        let order = non_decreasing_from_sorted items (sorted_from_strictly_increasing items rising) j i 0 after among in absurd (omega (arith, order, lower))

    from-overlap : (index address : ℕ) → index < length items → address ≡ get_or items index 0 → OverlapsAt image items index → IsReachFault image entry Overlap address
    from-overlap index address among e o =
        subst (IsReachFault image entry Overlap) (sym e)
        (overlap (get_or items o.before 0) o.size (get_or items index 0) o.own_size (reached-at o.before (omega (arith, o.below, among))) o.size_is
        (reached-at index among) o.own_size_is
        (below_from_sorted items o.before index 0 (sorted_from_strictly_increasing items rising) o.below among) o.meet)

    there : (kind : CodeKind) (address : ℕ) → AnyHasFault image entry kind address ⊎ IsOverlap image items kind address → IsReachFault image entry kind address
    there kind address (inl h) = of_function h.other h.has.size kind address h.reached h.has.size_is h.has.fault
    there kind address (inr o) =
        subst (λ k. IsReachFault image entry k address) (sym o.kind_is) (from-overlap o.index address o.among o.entry_is o.overlaps)

    to-overlap : (lower lower_size upper upper_size : ℕ) → PlaceOf lower → size_at image lower ≡ Some lower_size → PlaceOf upper → size_at image upper ≡ Some upper_size
        → lower < upper → RangesMeet lower lower_size upper upper_size → IsOverlap image items Overlap upper
    to-overlap lower lower_size upper upper_size p is q own less meet = record {
      kind_is = refl;
      index = q.index;
      among = q.among;
      entry_is = sym q.there;
      overlaps = record {
        before = p.index;
        below = before-in p.index q.index p.among (omega (arith, p.there, q.there, less)) (cases_lt p.index q.index);
        size = lower_size;
        size_is = subst (λ z. size_at image z ≡ Some lower_size) (sym p.there) is;
        own_size = upper_size;
        own_size_is = subst (λ z. size_at image z ≡ Some upper_size) (sym q.there) own;
        meet = subst (λ z. RangesMeet z lower_size (get_or items q.index 0) upper_size) (sym p.there)
            (subst (λ z. RangesMeet lower lower_size z upper_size) (sym q.there) meet);
      };
    }

    back : (kind : CodeKind) (address : ℕ) → IsReachFault image entry kind address → AnyHasFault image entry kind address ⊎ IsOverlap image items kind address
    back _ _ (of_function other size kind address reached is fault) =
        inl (record { other = other; reached = reached; has = record { size = size; size_is = is; fault = fault } })
    back _ _ (overlap lower lower_size upper upper_size one is other own less meet) =
        inr (to-overlap lower lower_size upper upper_size (place-in lower one) is (place-in upper other) own less meet)

    -- the first fault of all that is reached is the earlier one of the functions' and the overlaps'
    pub first-of-reach : (first shared : Option CodeFault) → IsFirstOf (AnyHasFault image entry) first → IsFirstOf (IsOverlap image items) shared
        → IsFirstOf (IsReachFault image entry) (earlier first shared)
    first-of-reach first shared functions overlaps =
        first_of-as (λ k a. AnyHasFault image entry k a ⊎ IsOverlap image items k a) (IsReachFault image entry) (earlier first shared) there back
        (first-earlier (AnyHasFault image entry) (IsOverlap image items) first shared functions overlaps)

    pub found-reach : ReachesNoFault image entry → IsReach image entry items
    found-reach sound = record { sound = sound; rising = rising; exactly = are.exactly }
