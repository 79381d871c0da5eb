-- How lists of nodes grow by the elements of another list, one after the other.
use Rattle.std.proofs.Common.{◌≡◌, ◌⊎◌, ◌+◌, ◌<◌, ℕ, List, [], ◌∷◌, ◌++◌, length, take, get_or, sym, subst, inl, inr}
use Rattle.std.specs.Prelude.{Contains}
use Rattle.std.proofs.lemmas.List.{take_more}
use Rattle.std.proofs.lemmas.List.Elements.{Contains-append_left, Contains-push, Contains-push_cases}
use Rattle.proof_tree.specs.Ahead.{Grows}
use Rattle.proof_tree.proofs.Ahead.{grows-as, grows-then}

-- what was there stays
pub grows-keeps : (P : ℕ → Type 0) (xs ys : List ℕ) → Grows P xs ys → (n : ℕ) → Contains xs n → Contains ys n
grows-keeps P xs ys g n h = subst (λ l. Contains l n) (sym g.grown) (Contains-append_left xs g.more n h)

-- ---- one element more of a list

pub taken_more : (xs : List ℕ) (i d : ℕ) → i < length xs → (k : ℕ) → Contains (take (i + 1) xs) k → Contains (take i xs) k ⊎ (get_or xs i d ≡ k)
taken_more xs i d less k h = Contains-push_cases (take i xs) (get_or xs i d) k (subst (λ (l : List ℕ). Contains l k) (take_more xs i d less) h)

pub taken_back : (xs : List ℕ) (i d : ℕ) → i < length xs → (k : ℕ) → Contains (take i xs) k ⊎ (get_or xs i d ≡ k) → Contains (take (i + 1) xs) k
taken_back xs i d less k h =
    subst (λ (l : List ℕ). Contains l k) (sym (take_more xs i d less))
    (elim h [ inl e ↦ Contains-append_left (take i xs) (get_or xs i d ∷ []) k e | inr e ↦ subst (λ (z : ℕ). Contains (take i xs ++ get_or xs i d ∷ []) z) e (Contains-push (take i xs) (get_or xs i d)) ])

pub grows_one : (nodes xs ys zs : List ℕ) (i d : ℕ) → i < length nodes → Grows (λ k. Contains (take i nodes) k) xs ys → Grows (λ k. get_or nodes i d ≡ k) ys zs → Grows (λ k. Contains (take (i + 1) nodes) k) xs zs
grows_one nodes xs ys zs i d less g h =
    grows-as (λ k. Contains (take i nodes) k ⊎ (get_or nodes i d ≡ k)) (λ k. Contains (take (i + 1) nodes) k) xs zs (taken_back nodes i d less) (taken_more nodes i d less)
    (grows-then (λ k. Contains (take i nodes) k) (λ k. get_or nodes i d ≡ k) xs ys zs g h)
