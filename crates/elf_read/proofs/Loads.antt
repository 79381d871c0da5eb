-- The PT_LOAD headers of a file, collected in order, and their first faults.
use Rattle.std.proofs.Common.{◌≡◌, ◌==◌, Bool, below_more, ◌+◌, ◌*◌, ◌-◌, ◌<◌, ◌≤◌, ◌++◌, ℕ, List, [], ◌∷◌, All, Contains, filter, length, get_or, true, false, arith, subst, sym, ap, ◌∙◌, append_assoc}
use Rattle.std.proofs.lemmas.List.Elements.{All-push}
use Rattle.elf_read_spec.specs.declared.ElfKind.TheVariants.{SegmentRange, SegmentOverlap}
use Rattle.elf_read_spec.specs.File as spec
use Rattle.elf_read.specs.Faults.{IsFirstOfKind}
use Rattle.elf_read.specs.Offsets.{IsRising}
use Rattle.elf_read.proofs.Tables.{entries_next}
use Rattle.elf_read.proofs.Rising.{contains_at, of_contained, of_lower, rising_push}

abbrev is_load : List ℕ → ℕ → Bool
is_load bytes at = spec.u32_at bytes at == 1

-- these are the PT_LOAD headers among the first i, of a table of count
pub record AreLoads (bytes loads : List ℕ) (start count i : ℕ) : Type 0 where
  pub so_far : loads ++ filter (λ at. spec.u32_at bytes at == 1) (spec.entries (start + 32 * i) 32 (count - i)) ≡ spec.loads bytes
  pub inside : All (λ at. at + 32 ≤ length bytes) loads
  pub below : All (λ at. at < start + 32 * i) loads
  pub rising : IsRising loads

filter_taken : (p : ℕ → Bool) (x : ℕ) (xs : List ℕ) → p x ≡ true → filter p (x ∷ xs) ≡ x ∷ filter p xs
filter_taken p x xs e = grind arith

filter_passed : (p : ℕ → Bool) (x : ℕ) (xs : List ℕ) → p x ≡ false → filter p (x ∷ xs) ≡ filter p xs
filter_passed p x xs e = grind arith

pub load_pushed : (bytes loads : List ℕ) (start count i : ℕ) → AreLoads bytes loads start count i → i < count
    → start + 32 * count ≤ length bytes → (spec.u32_at bytes (start + 32 * i) == 1) ≡ true
    → AreLoads bytes (loads ++ (start + 32 * i) ∷ []) start count (i + 1)
load_pushed bytes loads start count i so h table e =
    let at = start + 32 * i in
    let next = entries_next start 32 count i h in
    record {
      so_far =
          append_assoc loads (at ∷ []) (filter (is_load bytes) (spec.entries (start + 32 * (i + 1)) 32 (count - (i + 1))))
          ∙ ap (λ xs. loads ++ xs) (sym (filter_taken (is_load bytes) at (spec.entries (start + 32 * (i + 1)) 32 (count - (i + 1))) e))
          ∙ ap (λ xs. loads ++ filter (is_load bytes) xs) (sym next) ∙ so.so_far;
      inside = All-push (λ n. n + 32 ≤ length bytes) loads at so.inside (omega arith);
      below =
          All-push (λ n. n < start + 32 * (i + 1)) loads at
          (λ k d w. let lower : get_or loads k d < start + 32 * i = so.below k d w in omega arith) (omega arith);
      rising = rising_push loads at so.rising (λ k w. so.below k 0 w);
    }

pub load_passed : (bytes loads : List ℕ) (start count i : ℕ) → AreLoads bytes loads start count i → i < count
    → (spec.u32_at bytes (start + 32 * i) == 1) ≡ false → AreLoads bytes loads start count (i + 1)
load_passed bytes loads start count i so h e =
    let at = start + 32 * i in
    let next = entries_next start 32 count i h in
    record {
      so_far =
          ap (λ xs. loads ++ xs) (sym (filter_passed (is_load bytes) at (spec.entries (start + 32 * (i + 1)) 32 (count - (i + 1))) e))
          ∙ ap (λ xs. loads ++ filter (is_load bytes) xs) (sym next) ∙ so.so_far;
      inside = so.inside;
      below = λ k d w. let lower : get_or loads k d < start + 32 * i = so.below k d w in omega arith;
      rising = so.rising;
    }

-- the first header that is not placed well is the first fault in range
pub range_first : (bytes loads : List ℕ) (i : ℕ) → loads ≡ spec.loads bytes → IsRising loads → i < length loads
    → ((k : ℕ) → k < i → spec.IsPlaced bytes (get_or loads k 0)) → (spec.IsPlaced bytes (get_or loads i 0) → ⊥)
    → IsFirstOfKind bytes SegmentRange (get_or loads i 0)
range_first bytes loads i e rising h each bad = record {
  fault = λ kept. bad (kept (subst (λ xs. Contains xs (get_or loads i 0)) e (contains_at loads i h)));
  lowest =
      λ before below within.
      of_lower (spec.IsPlaced bytes) loads i rising h each before (subst (λ xs. Contains xs before) (sym e) within) below;
}

-- the headers below i are apart
abbrev pub AreApartBelow : List ℕ → List ℕ → ℕ → Type 0
AreApartBelow bytes loads i = (j k : ℕ) → j < k → k < i → spec.AreApart bytes (get_or loads j 0) (get_or loads k 0)

apart_from_earlier : (bytes loads : List ℕ) (k : ℕ) → IsRising loads → k < length loads
    → ((j : ℕ) → j < k → spec.AreApart bytes (get_or loads j 0) (get_or loads k 0)) → (earlier : ℕ) → Contains loads earlier
    → earlier < get_or loads k 0 → spec.AreApart bytes earlier (get_or loads k 0)
apart_from_earlier bytes loads k rising h each earlier within below =
    of_lower (λ place. spec.AreApart bytes place (get_or loads k 0)) loads k rising h each earlier within below

-- the first header that meets an earlier one is the first overlap
pub overlap_first : (bytes loads : List ℕ) (i j : ℕ) → loads ≡ spec.loads bytes → IsRising loads → i < length loads
    → AreApartBelow bytes loads i → j < i → (spec.AreApart bytes (get_or loads j 0) (get_or loads i 0) → ⊥)
    → IsFirstOfKind bytes SegmentOverlap (get_or loads i 0)
overlap_first bytes loads i j e rising h each less met = record {
  fault =
      λ kept.
      met
      (kept (subst (λ xs. Contains xs (get_or loads i 0)) e (contains_at loads i h)) (get_or loads j 0)
      (subst (λ xs. Contains xs (get_or loads j 0)) e (contains_at loads j (omega arith))) (rising j i less h));
  lowest =
      λ before below inside earlier among lower.
      of_lower (λ b. (x : ℕ) → Contains loads x → x < b → spec.AreApart bytes x b) loads i rising h
      (λ k w. apart_from_earlier bytes loads k rising (omega arith) (λ n less_k. each n k less_k w)) before
      (subst (λ xs. Contains xs before) (sym e) inside) below earlier (subst (λ xs. Contains xs earlier) (sym e) among) lower;
}

pub apart_below_more : (bytes loads : List ℕ) (i : ℕ) → AreApartBelow bytes loads i
    → ((j : ℕ) → j < i → spec.AreApart bytes (get_or loads j 0) (get_or loads i 0)) → AreApartBelow bytes loads (i + 1)
apart_below_more bytes loads i each here j k less within =
    below_more (λ n. (m : ℕ) → m < n → spec.AreApart bytes (get_or loads m 0) (get_or loads n 0)) i (λ n w m l. each m n l w) here k within j less

-- where all headers are apart there is no overlap
pub no_overlap : (bytes loads : List ℕ) → loads ≡ spec.loads bytes → IsRising loads → AreApartBelow bytes loads (length loads)
    → (at : ℕ) → spec.Keeps bytes SegmentOverlap at
no_overlap bytes loads e rising each at within earlier among less =
    of_contained (λ b. (x : ℕ) → Contains loads x → x < b → spec.AreApart bytes x b) loads
    (λ k w. apart_from_earlier bytes loads k rising w (λ n l. each n k l w)) at (subst (λ xs. Contains xs at) (sym e) within) earlier
    (subst (λ xs. Contains xs earlier) (sym e) among) less

pub no_range_fault : (bytes loads : List ℕ) → loads ≡ spec.loads bytes → ((k : ℕ) → k < length loads → spec.IsPlaced bytes (get_or loads k 0))
    → (at : ℕ) → spec.Keeps bytes SegmentRange at
no_range_fault bytes loads e each at within =
    of_contained (spec.IsPlaced bytes) loads each at (subst (λ xs. Contains xs at) (sym e) within)
