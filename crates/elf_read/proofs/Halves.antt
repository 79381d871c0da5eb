-- The halves of a list that is sorted by a key.
use Rattle.std.proofs.Common.{◌≡◌, ◌+◌, ◌<◌, ◌≤◌, ℕ, List, AllPairs, length, get_or, arith, subst, ap, below_more, inl, inr}
use Rattle.std.specs.List.{AllWithin}
use Rattle.std.proofs.lemmas.List.{get_or_default}
use Rattle.std.proofs.Math.Nat.{eq-or-lt_of_le}

-- what is at most a at one place is at most a before it
pub lower_half : {X : Type 0} (f : X → ℕ) (xs : List X) (m a : ℕ) (e : X) → AllPairs (λ x y. f x ≤ f y) xs → m < length xs
    → f (get_or xs m e) ≤ a → AllWithin (λ x. f x ≤ a) xs 0 (m + 1)
lower_half f xs m a e rising h here k d from less =
    let there : f (get_or xs m d) ≤ a = subst (λ x. f x ≤ a) (get_or_default xs m e d h) here in
    below_more (λ n. f (get_or xs n d) ≤ a) m
    (λ n w. let least : f (get_or xs n d) ≤ f (get_or xs m d) = rising n m d w h in omega arith) there k less

at_or_after : {X : Type 0} (f : X → ℕ) (xs : List X) (m k : ℕ) (d : X) → AllPairs (λ x y. f x ≤ f y) xs → m ≤ k → k < length xs
    → f (get_or xs m d) ≤ f (get_or xs k d)
at_or_after f xs m k d rising from less =
    elim (eq-or-lt_of_le from) [
      | inl e ↦ let same : f (get_or xs m d) ≡ f (get_or xs k d) = ap (λ n. f (get_or xs n d)) e in omega arith
      | inr w ↦ rising m k d w less
    ]

-- what is above a at one place is above a from there on
pub upper_half : {X : Type 0} (f : X → ℕ) (xs : List X) (m a : ℕ) (e : X) → AllPairs (λ x y. f x ≤ f y) xs
    → a < f (get_or xs m e) → AllWithin (λ x. a < f x) xs m (length xs)
upper_half f xs m a e rising here k d from less =
    let there : a < f (get_or xs m d) = subst (λ x. a < f x) (get_or_default xs m e d (omega arith)) here in
    let least : f (get_or xs m d) ≤ f (get_or xs k d) = at_or_after f xs m k d rising from less in
    omega arith
