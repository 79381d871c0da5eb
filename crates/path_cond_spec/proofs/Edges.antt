-- Lists of edges, and what they lead to.
use Rattle.std.proofs.Common.{◌≡◌, ◌∙◌, ◌⊎◌, ℕ, ◌<◌, zero, suc, Bool, true, false, List, [], ◌∷◌, length, get_or, map, refl, ap, ap₂, inl, inr, arith}
use Rattle.std.specs.Prelude.{Contains}
use Rattle.std.specs.List.{list_any, All}
use Rattle.std.proofs.Math.ListN.{get_or-map}
use Rattle.std.proofs.lemmas.List.{length-map}
use Rattle.std.proofs.lemmas.List.Elements.{All-map, Contains-get_or}
use Rattle.std.proofs.lemmas.List.Folds.{list_any_at}
use Rattle.std.proofs.lemmas.Bool.{or_cases, false≢true}

module _ {X : Type 0} where
  pub contains_head : (x : X) (xs : List X) → Contains (x ∷ xs) x
  contains_head x xs = (0, omega arith, refl)

  pub contains_tail : (x y : X) (xs : List X) → Contains xs y → Contains (x ∷ xs) y
  contains_tail x y xs m = (suc m.0, omega (arith, m.1), m.2)

  pub contains_none : (x : X) → Contains [] x → ⊥
  contains_none x m = absurd (omega (arith, m.1))

  pub contains_cases : (x : X) (xs : List X) (y : X) → Contains (x ∷ xs) y → (x ≡ y) ⊎ Contains xs y
  contains_cases x xs y m = at m.0 m.1 m.2
    where
      at : (k : ℕ) → k < length (x ∷ xs) → get_or (x ∷ xs) k y ≡ y → (x ≡ y) ⊎ Contains xs y
      at zero less e = inl e
      at (suc k) less e = inr (k, omega arith, e)

  pub nil_from_none : (xs : List X) → ((x : X) → Contains xs x → ⊥) → xs ≡ []
  nil_from_none [] none = refl
  nil_from_none (x ∷ xs) none = absurd (none x (contains_head x xs))

  pub contains_any : (test : X → Bool) (xs : List X) (x : X) → Contains xs x → test x ≡ true → list_any test xs ≡ true
  contains_any test xs x m h = list_any_at test xs m.0 x m.1 (ap test m.2 ∙ h)

module _ {X Y : Type 0} where
  -- functions that agree on the elements make one list of them
  pub map_same : (f h : X → Y) (xs : List X) → ((x : X) → Contains xs x → f x ≡ h x) → map f xs ≡ map h xs
  map_same f h [] same = refl
  map_same f h (x ∷ xs) same =
      ap₂ (λ (y : Y) (ys : List Y). y ∷ ys) (same x (contains_head x xs)) (map_same f h xs (λ y m. same y (contains_tail x y xs m)))

  pub each : (P : Y → Type 0) (f : X → Y) (xs : List X) → ((x : X) → Contains xs x → P (f x)) → All P (map f xs)
  each P f xs h = All-map P f xs (λ k d less. h (get_or xs k d) (Contains-get_or xs k d less))

  -- one passes the test
  pub some_of : (test : Y → Bool) (f : X → Y) (xs : List X) → list_any test (map f xs) ≡ true → (x : X) × Contains xs x × (test (f x) ≡ true)
  some_of test f [] h = absurd (false≢true h)
  some_of test f (x ∷ xs) h = elim (or_cases (test (f x)) (list_any test (map f xs)) h) [
    | inl here ↦ (x, contains_head x xs, here)
    | inr later ↦ let rest = some_of test f xs later in (rest.0, contains_tail x rest.0 xs rest.1, rest.2)
  ]

  pub some_at : (test : Y → Bool) (f : X → Y) (xs : List X) (x : X) → Contains xs x → test (f x) ≡ true → list_any test (map f xs) ≡ true
  some_at test f xs x m h =
      let long : length (map f xs) ≡ length xs = length-map xs f in
      let here : get_or (map f xs) m.0 (f x) ≡ f x = get_or-map f xs m.0 x ∙ ap f m.2 in
      list_any_at test (map f xs) m.0 (f x) (omega (arith, m.1)) (ap test here ∙ h)
