-- Lists whose keys rise are determined by their members.
use Rattle.std.proofs.Common.{◌≡◌, ◌⊎◌, inl, inr, ◌<◌, ℕ, zero, suc, List, [], ◌∷◌, length, map, get_or, refl, ap, ap₂, sym, subst, arith}
use Rattle.std.specs.Prelude.{⊤, Contains}
use Rattle.std.specs.List.{AllPairs}
use Rattle.std.specs.List.Sorted.{IsStrictlyIncreasing}
use Rattle.std.proofs.lemmas.List.{length-map}
use Rattle.std.proofs.lemmas.List.Kept.{AllPairs-from_increasing}

module _ {X : Type 0} (key : X → ℕ) where
  Rises : List X → Type 0
  Rises [] = ⊤
  Rises (x ∷ xs) = ((y : X) → Contains xs y → key x < key y) × Rises xs

  at_mapped : (xs : List X) (k d : ℕ) (y : X) → k < length xs → get_or xs k y ≡ y → get_or (map key xs) k d ≡ key y
  at_mapped [] k d y below is = absurd (omega (arith, below))
  at_mapped (x ∷ xs) zero d y below is = ap key is
  at_mapped (x ∷ xs) (suc k) d y below is = at_mapped xs k d y (omega (arith, below)) is

  rises : (xs : List X) → AllPairs (λ x y. x < y) (map key xs) → Rises xs
  unfolding Rises
  rises [] pairs = tt
  rises (x ∷ xs) pairs = (
    λ y inside.
        subst (λ n. key x < n) (at_mapped xs inside.0 0 y inside.1 inside.2)
        (pairs 0 (suc inside.0) 0 (omega arith) (omega (arith, length-map xs key, inside.1))),
    rises xs (λ i j d before within. pairs (suc i) (suc j) d (omega (arith, before)) (omega (arith, within))),
  )

  first_or_later : (x y : X) (xs : List X) → Contains (x ∷ xs) y → (y ≡ x) ⊎ Contains xs y
  first_or_later x y xs (zero, within, e) = inl (sym e)
  first_or_later x y xs (suc k, within, e) = inr (k, omega (arith, within), e)

  later : (x y : X) (xs : List X) → Contains xs y → Contains (x ∷ xs) y
  later x y xs (k, within, e) = (suc k, omega (arith, within), e)

  here : (x : X) (xs : List X) → Contains (x ∷ xs) x
  here x xs = (0, omega arith, refl)

  same_heads : (x y : X) (xs ys : List X) → Rises (x ∷ xs) → Rises (y ∷ ys) → Contains (y ∷ ys) x → Contains (x ∷ xs) y → x ≡ y
  unfolding Rises
  same_heads x y xs ys up other inside back =
      elim (first_or_later y x ys inside) [
        | inl e ↦ e
        | inr far ↦ elim (first_or_later x y xs back) [
          | inl e ↦ sym e
          | inr away ↦ absurd (omega (arith, other.0 x far, up.0 y away))
        ]
      ]

  tail_of : (x y : X) (xs ys : List X) → Rises (x ∷ xs) → x ≡ y → ((a : X) → Contains (x ∷ xs) a → Contains (y ∷ ys) a) → (a : X) → Contains xs a → Contains ys a
  unfolding Rises
  tail_of x y xs ys up same to a inside =
      elim (first_or_later y a ys (to a (later x a xs inside))) [
        | inl e ↦ absurd (omega (arith, up.0 a inside, ap key e, ap key same))
        | inr h ↦ h
      ]

  same_rising : (xs ys : List X) → Rises xs → Rises ys → ((a : X) → Contains xs a → Contains ys a) → ((a : X) → Contains ys a → Contains xs a) → xs ≡ ys
  unfolding Rises
  same_rising [] [] up other to from = refl
  same_rising [] (y ∷ ys) up other to from = absurd (omega (arith, (from y (here y ys)).1))
  same_rising (x ∷ xs) [] up other to from = absurd (omega (arith, (to x (here x xs)).1))
  same_rising (x ∷ xs) (y ∷ ys) up other to from =
      let same = same_heads x y xs ys up other (to x (here x xs)) (from y (here y ys)) in
      ap₂ (λ (a : X) (l : List X). a ∷ l) same
      (same_rising xs ys up.1 other.1 (tail_of x y xs ys up same to) (tail_of y x ys xs other (sym same) from))

  -- the members are the same, each way
  pub same_list : (xs ys : List X) → IsStrictlyIncreasing (map key xs) → IsStrictlyIncreasing (map key ys) → ((a : X) → Contains xs a → Contains ys a)
      → ((a : X) → Contains ys a → Contains xs a) → xs ≡ ys
  same_list xs ys up other to from =
      same_rising xs ys (rises xs (AllPairs-from_increasing (map key xs) up)) (rises ys (AllPairs-from_increasing (map key ys) other)) to from

itself : (xs : List ℕ) → map (λ (n : ℕ). n) xs ≡ xs
itself [] = refl
itself (x ∷ xs) = ap (λ (l : List ℕ). x ∷ l) (itself xs)

pub same_numbers : (xs ys : List ℕ) → IsStrictlyIncreasing xs → IsStrictlyIncreasing ys → ((a : ℕ) → Contains xs a → Contains ys a) → ((a : ℕ) → Contains ys a → Contains xs a)
    → xs ≡ ys
same_numbers xs ys up other to from =
    same_list (λ (n : ℕ). n) xs ys (subst IsStrictlyIncreasing (sym (itself xs)) up) (subst IsStrictlyIncreasing (sym (itself ys)) other) to from
