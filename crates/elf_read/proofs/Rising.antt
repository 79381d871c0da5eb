-- Facts of the offsets in a rising list.
use Rattle.std.proofs.Common.{◌≡◌, ◌<◌, ◌++◌, ◌∷◌, [], ℕ, List, length, get_or, Contains, arith, subst, sym, ◌∙◌, refl}
use Rattle.std.proofs.lemmas.List.{get_or_default}
use Rattle.std.proofs.lemmas.List.Quantifiers.{all_pairs_push}
use Rattle.elf_read.specs.Offsets.{IsRising}

pub contains_at : (xs : List ℕ) (i : ℕ) → i < length xs → Contains xs (get_or xs i 0)
contains_at xs i h = (i, h, get_or_default xs i (get_or xs i 0) 0 h)

-- what holds at each place holds of each element
pub of_contained : (P : ℕ → Type 0) (xs : List ℕ) → ((k : ℕ) → k < length xs → P (get_or xs k 0)) → (x : ℕ) → Contains xs x → P x
of_contained P xs each x within =
    subst P (get_or_default xs within.0 0 x within.1 ∙ within.2) (each within.0 within.1)

place_below : (xs : List ℕ) (i k : ℕ) → IsRising xs → i < length xs → k < length xs → get_or xs k 0 < get_or xs i 0 → k < i
place_below xs i k rising here there below =
    let not_above : i < k → ⊥ = λ h. let above : get_or xs i 0 < get_or xs k 0 = rising i k h there in omega arith in
    let not_here : k ≡ i → ⊥ = λ e. let same : get_or xs k 0 ≡ get_or xs i 0 = subst (λ n. get_or xs n 0 ≡ get_or xs i 0) (sym e) refl in omega arith in
    omega arith

-- what holds at each place below one holds of each element below the one there
pub of_lower : (P : ℕ → Type 0) (xs : List ℕ) (i : ℕ) → IsRising xs → i < length xs → ((k : ℕ) → k < i → P (get_or xs k 0))
    → (x : ℕ) → Contains xs x → x < get_or xs i 0 → P x
of_lower P xs i rising here each x within below =
    let same : get_or xs within.0 0 ≡ x = get_or_default xs within.0 0 x within.1 ∙ within.2 in
    let lower : get_or xs within.0 0 < get_or xs i 0 = omega arith in
    subst P same (each within.0 (place_below xs i within.0 rising here within.1 lower))

-- one more offset, above all so far
pub rising_push : (xs : List ℕ) (x : ℕ) → IsRising xs → ((k : ℕ) → k < length xs → get_or xs k 0 < x) → IsRising (xs ++ x ∷ [])
rising_push xs x rising below i j less within =
    all_pairs_push (λ a b. a < b) xs x
    (λ a b d lower inside. rw (get_or_default xs a d 0 (omega arith), get_or_default xs b d 0 inside) (rising a b lower inside))
    (λ k d inside. rw (get_or_default xs k d 0 inside) (below k inside)) i j 0 less within
