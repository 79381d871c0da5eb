-- Lists in another order.
use Rattle.std.proofs.Common.{◌≡◌, ◌≢◌, ◌<◌, ◌==◌, ◌∙◌, ℕ, Bool, true, false, cond, List, AllPairs, IsPermutation, length, get_or, swap, ap, sym, subst, refl, arith, inl, inr, eqb-true}
use Rattle.std.proofs.lemmas.Bool.{cases_order, eqb-false}
use Rattle.std.proofs.lemmas.List.Edits.{swapped_from_swap}
use Rattle.std.proofs.lemmas.List.Sorted.{IsPermutation-keeps, IsPermutation-swap, length_permutation}

-- each element is related to each other one
abbrev pub Each : {X : Type 0} → (X → X → Type 0) → List X → Type 0
Each {X} R xs = (m n : ℕ) (d : X) → m ≢ n → m < length xs → n < length xs → R (get_or xs m d) (get_or xs n d)

pub each_of_pairs : {X : Type 0} (R : X → X → Type 0) → ((x y : X) → R x y → R y x) → (xs : List X) → AllPairs R xs → Each R xs
each_of_pairs R flip xs pairs m n d apart p q =
    elim (cases_order m n) [
      | inl e ↦ absurd (apart e)
      | inr (inl less) ↦ pairs m n d less q
      | inr (inr more) ↦ flip (get_or xs n d) (get_or xs m d) (pairs n m d more p)
    ]

-- the index that an element had before those at a and b changed places
abbrev source : (a b k : ℕ) → ℕ
source a b k = cond (k == a) b (cond (k == b) a k)

source_twice : (a b k : ℕ) → source a b (source a b k) ≡ k
source_twice a b k = grind arith

source_inside : (a b k n : ℕ) → a < n → b < n → k < n → source a b k < n
source_inside a b k n p q h = grind arith

swapped_at : {X : Type 0} (xs : List X) (a b k : ℕ) (d : X) (at_a at_b : Bool) → a < length xs → b < length xs → (k == a) ≡ at_a → (k == b) ≡ at_b
    → get_or (swap xs a b) k d ≡ get_or xs (cond at_a b (cond at_b a k)) d
swapped_at xs a b k d true at_b p q s t =
    ap (λ n. get_or (swap xs a b) n d) (eqb-true k a s) ∙ (swapped_from_swap xs (swap xs a b) a b d p q refl).0
swapped_at xs a b k d false true p q s t =
    ap (λ n. get_or (swap xs a b) n d) (eqb-true k b t) ∙ (swapped_from_swap xs (swap xs a b) a b d p q refl).1
swapped_at xs a b k d false false p q s t =
    (swapped_from_swap xs (swap xs a b) a b d p q refl).2 k (eqb-false k a s) (eqb-false k b t)

each_swapped : {X : Type 0} (R : X → X → Type 0) (xs : List X) (a b : ℕ) → a < length xs → b < length xs → Each R xs → Each R (swap xs a b)
each_swapped R xs a b p q each m n d apart h l =
    let long = length_permutation xs (swap xs a b) (IsPermutation-swap xs (swap xs a b) a b p q refl) in
    subst (λ x. R x (get_or (swap xs a b) n d)) (sym (swapped_at xs a b m d (m == a) (m == b) p q refl refl))
    (subst (λ y. R (get_or xs (source a b m) d) y) (sym (swapped_at xs a b n d (n == a) (n == b) p q refl refl))
    (each (source a b m) (source a b n) d
    (λ e. apart (sym (source_twice a b m) ∙ ap (source a b) e ∙ source_twice a b n))
    (source_inside a b m (length xs) p q (omega arith)) (source_inside a b n (length xs) p q (omega arith))))

-- and so they are in another order
pub each_moved : {X : Type 0} (R : X → X → Type 0) (xs ys : List X) → IsPermutation xs ys → Each R xs → Each R ys
each_moved R xs ys moved each = IsPermutation-keeps xs (Each R) each (λ l i j p q h. each_swapped R l i j p q h) ys moved
