-- Conditions and terms as one, from the ids of their trees.
use Rattle.std.proofs.Common.{◌≡◌, ◌∙◌, ℕ, ◌+◌, ◌-◌, ◌<◌, ◌≤◌, ◌==◌, ◌&&◌, zero, suc, Bool, if◌then◌else◌, List, [], ◌∷◌, ◌++◌, length, get_or, map, take, drop, min, refl, sym, ap, ap₂, arith, length-take}
use Rattle.std.specs.List.{list_all}
use Rattle.std.proofs.lemmas.Bool.{eq-eqb}
use Rattle.std.proofs.lemmas.List.{take_more, map-append, length-map, take_all, drop_more}
use Rattle.std.proofs.lemmas.List.Elements.{All-head, All-tail}
use Rattle.std.proofs.lemmas.List.Sums.{fold-append}
use Rattle.term_core_spec.specs.Term.{Term, or_term, choose}
use Rattle.term_core_spec.specs.Same.{same_term}
use Rattle.term_bank.specs.Nodes.{tree_at, AreDistinct}
use Rattle.path_cond.specs.Merged.{AreIds, any_term, chosen_term, merged_term}
use Rattle.path_cond.proofs.Banks.{same_ids}

-- ---- `or`

push_any : (ts : List Term) (t : Term) → 0 < length ts → any_term (ts ++ t ∷ []) ≡ or_term (any_term ts) t
push_any [] t some = absurd (omega arith)
push_any (c ∷ rest) t some = fold-append or_term c rest (t ∷ [])

module _ (f : ℕ → Term) (ids : List ℕ) where
  pub any_first : (i d : ℕ) → i ≡ 1 → 0 < length ids → any_term (map f (take i ids)) ≡ f (get_or ids 0 d)
  any_first i d is some = ap (λ (n : ℕ). any_term (map f (take n ids))) is ∙ by ids some
    where
      by : (xs : List ℕ) → 0 < length xs → any_term (map f (take 1 xs)) ≡ f (get_or xs 0 d)
      by [] less = absurd (omega arith)
      by (x ∷ xs) less = refl

  pub any_more : (i d : ℕ) → 0 < i → i < length ids → any_term (map f (take (i + 1) ids)) ≡ or_term (any_term (map f (take i ids))) (f (get_or ids i d))
  any_more i d some within =
      let count : length (map f (take i ids)) ≡ min i (length ids) = length-map (take i ids) f ∙ length-take i ids in
      ap (λ (l : List ℕ). any_term (map f l)) (take_more ids i d within)
      ∙ ap any_term (map-append f (take i ids) (get_or ids i d ∷ []))
      ∙ push_any (map f (take i ids)) (f (get_or ids i d)) (omega arith)

  pub any_all : (i : ℕ) → length ids ≤ i → any_term (map f (take i ids)) ≡ any_term (map f ids)
  any_all i all = ap (λ (l : List ℕ). any_term (map f l)) (take_all i ids all)

-- ---- choices

module _ (f : ℕ → Term) (conditions terms : List ℕ) (many : length conditions ≡ length terms) where
  pub chosen_last : (i d : ℕ) → i + 1 ≡ length terms → chosen_term (map f (drop i conditions)) (map f (drop i terms)) ≡ f (get_or terms i d)
  unfolding chosen_term
  chosen_last i d last =
      let cs = drop_more conditions i d (omega arith) in
      let ts = drop_more terms i d (omega arith) in
      ap₂ (λ (l m : List ℕ). chosen_term (map f l) (map f m)) cs ts
      ∙ end (drop (i + 1) terms) (drop_end terms (i + 1) (omega arith))
    where
      drop_end : (xs : List ℕ) (n : ℕ) → length xs ≤ n → drop n xs ≡ []
      drop_end [] zero h = refl
      drop_end [] (suc n) h = refl
      drop_end (x ∷ xs) zero h = absurd (omega arith)
      drop_end (x ∷ xs) (suc n) h = drop_end xs n (omega arith)

      end : (rest : List ℕ) → rest ≡ [] → chosen_term (f (get_or conditions i d) ∷ map f (drop (i + 1) conditions)) (f (get_or terms i d) ∷ map f rest) ≡ f (get_or terms i d)
      end rest none = ap (λ (l : List ℕ). chosen_term (f (get_or conditions i d) ∷ map f (drop (i + 1) conditions)) (f (get_or terms i d) ∷ map f l)) none

  pub chosen_before : (i d : ℕ) → i + 1 < length terms
      → chosen_term (map f (drop i conditions)) (map f (drop i terms))
      ≡ choose (f (get_or conditions i d)) (f (get_or terms i d)) (chosen_term (map f (drop (i + 1) conditions)) (map f (drop (i + 1) terms)))
  unfolding chosen_term
  chosen_before i d more =
      let cs = drop_more conditions i d (omega arith) in
      let ts = drop_more terms i d (omega arith) in
      let next = drop_more terms (i + 1) d more in
      ap₂ (λ (l m : List ℕ). chosen_term (map f l) (map f m)) cs ts
      ∙ ap (λ (l : List ℕ). chosen_term (f (get_or conditions i d) ∷ map f (drop (i + 1) conditions)) (f (get_or terms i d) ∷ map f l)) next
      ∙ ap (λ (l : List ℕ). choose (f (get_or conditions i d)) (f (get_or terms i d)) (chosen_term (map f (drop (i + 1) conditions)) (map f l))) (sym next)

-- ---- the same term

module _ (trees : List Term) (distinct : AreDistinct trees) where
  same_rest : (first : ℕ) (ids : List ℕ) → first < length trees → AreIds (length trees) ids
      → list_all (λ (i : ℕ). i == first) ids ≡ list_all (same_term (tree_at trees first)) (map (tree_at trees) ids)
  same_rest first [] within are = refl
  same_rest first (i ∷ ids) within are =
      ap₂ (λ (p q : Bool). p && q) (sym (same_ids trees distinct first i within (All-head (λ (j : ℕ). j < length trees) i ids are)))
      (same_rest first ids within (All-tail (λ (j : ℕ). j < length trees) i ids are))

  -- where all ids are the first, and where they aren't
  pub merged_is : (test : Bool) (conditions : List Term) (ids : List ℕ) (d : ℕ) → 0 < length ids → AreIds (length trees) ids → list_all (λ (i : ℕ). i == get_or ids 0 d) ids ≡ test
      → merged_term conditions (map (tree_at trees) ids) ≡ (if test then tree_at trees (get_or ids 0 d) else chosen_term conditions (map (tree_at trees) ids))
  merged_is test conditions [] d some are is = absurd (omega arith)
  merged_is test conditions (first ∷ ids) d some are is =
      let tests : list_all (same_term (tree_at trees first)) (map (tree_at trees) ids) ≡ test =
      sym (same_rest first ids (All-head (λ (j : ℕ). j < length trees) first ids are) (All-tail (λ (j : ℕ). j < length trees) first ids are))
      ∙ ap (λ (p : Bool). p && list_all (λ (i : ℕ). i == first) ids) (sym (eq-eqb first first refl)) ∙ is in
      ap (λ (p : Bool). if p then tree_at trees first else chosen_term conditions (tree_at trees first ∷ map (tree_at trees) ids)) tests
