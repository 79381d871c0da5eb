-- Members of lists.
use Rattle.std.proofs.Common.{◌≡◌, ◌⊎◌, ◌<◌, ℕ, List, [], ◌∷◌, length, get_or, map, refl, sym, ◌∙◌, ap, subst, inl, inr, arith}
use Rattle.std.specs.Prelude.{Contains, slice_get, Some}
use Rattle.std.proofs.lemmas.List.Elements.{Contains-append_cases, Contains-append_right}
use Rattle.std.proofs.lemmas.Option.{slice_get_within, get_or_from_slice_get, slice_get-get_or}

module _ {X : Type 0} where
  pub none_contained : (t : X) → Contains [] t → ⊥
  none_contained t (k, below, here) = omega (arith, below)

  pub only_contained : (x t : X) → Contains (x ∷ []) t → t ≡ x
  only_contained x t (k, below, here) = first k below here
    where
      first : (k : ℕ) → k < length (x ∷ []) → get_or (x ∷ []) k t ≡ t → t ≡ x
      first k below here = let zero : k ≡ 0 = omega (arith, below) in sym (subst (λ j. get_or (x ∷ []) j t ≡ t) zero here)

  pub contained_here : (x : X) (xs : List X) → Contains (x ∷ xs) x
  contained_here x xs = (0, omega arith, refl)

  pub contained_later : (x : X) (xs : List X) (t : X) → Contains xs t → Contains (x ∷ xs) t
  contained_later x xs t c = Contains-append_right (x ∷ []) xs t c

  pub contained_cases : (x : X) (xs : List X) (t : X) → Contains (x ∷ xs) t → (t ≡ x) ⊎ Contains xs t
  contained_cases x xs t c = elim (Contains-append_cases (x ∷ []) xs t c) [ inl only ↦ inl (only_contained x t only) | inr later ↦ inr later ]

  pub contained_at : (xs : List X) (i : ℕ) (x : X) → slice_get xs i ≡ Some x → Contains xs x
  contained_at xs i x e = (i, slice_get_within xs i x e, get_or_from_slice_get xs i x x e)

  pub index_of_contained : (xs : List X) (x : X) → Contains xs x → (i : ℕ) × (slice_get xs i ≡ Some x)
  index_of_contained xs x (k, below, here) = (k, slice_get-get_or xs k x below ∙ ap Some here)

module _ {X Y : Type 0} (f : X → Y) where
  pub contained_map : (xs : List X) (x : X) → Contains xs x → Contains (map f xs) (f x)
  contained_map [] x c = absurd (none_contained x c)
  contained_map (y ∷ xs) x c = elim (contained_cases y xs x c) [
    | inl e ↦ subst (λ z. Contains (f y ∷ map f xs) (f z)) (sym e) (contained_here (f y) (map f xs))
    | inr later ↦ contained_later (f y) (map f xs) (f x) (contained_map xs x later)
  ]

  -- a member of the image is the image of a member
  pub record IsImage (xs : List X) (y : Y) : Type 0 where
    pub of : X
    pub among : Contains xs of
    pub is : y ≡ f of

  pub contained_image : (xs : List X) (y : Y) → Contains (map f xs) y → IsImage xs y
  contained_image [] y c = absurd (none_contained y c)
  contained_image (x ∷ xs) y c = elim (contained_cases (f x) (map f xs) y c) [
    | inl e ↦ record { of = x; among = contained_here x xs; is = e }
    | inr later ↦ further (contained_image xs y later)
  ]
    where
      further : IsImage xs y → IsImage (x ∷ xs) y
      further i = record { of = i.of; among = contained_later x xs i.of i.among; is = i.is }
