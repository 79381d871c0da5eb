-- Elements of lists by index.
use Rattle.std.proofs.Common.{◌≡◌, ◌⊎◌, ℕ, zero, suc, ◌+◌, ◌<◌, List, [], ◌∷◌, ◌++◌, length, get_or, refl, sym, ◌∙◌, inl, inr, arith}
use Rattle.std.proofs.lemmas.Option.{slice_get-get_or, slice_get_within, same_Some}
use Rattle.visit_walk.specs.Tables.{Holds}

module _ {X : Type 0} where
  pub holds-front : (xs ys : List X) (i : ℕ) (x : X) → Holds xs i x → Holds (xs ++ ys) i x
  holds-front [] ys i x e = absurd (cc)
  holds-front (y ∷ xs) ys zero x e = e
  holds-front (y ∷ xs) ys (suc i) x e = holds-front xs ys i x e

  pub holds-last : (xs : List X) (x : X) → Holds (xs ++ x ∷ []) (length xs) x
  holds-last [] x = refl
  holds-last (y ∷ xs) x = holds-last xs x

  -- an element of two lists, one after the other, is one of the first or of the second
  pub holds-cases : (xs ys : List X) (i : ℕ) (x : X) → Holds (xs ++ ys) i x → Holds xs i x ⊎ ((j : ℕ) × (i ≡ length xs + j) × Holds ys j x)
  holds-cases [] ys i x e = inr (i, omega arith, e)
  holds-cases (y ∷ xs) ys zero x e = inl e
  holds-cases (y ∷ xs) ys (suc i) x e = elim (holds-cases xs ys i x e) [ inl h ↦ inl h | inr h ↦ inr (next h) ]
    where
      next : (j : ℕ) × (i ≡ length xs + j) × Holds ys j x → (j : ℕ) × (suc i ≡ length (y ∷ xs) + j) × Holds ys j x
      next (j, e, h) = (j, omega (arith, e), h)

  pub holds-below : (xs : List X) (i : ℕ) (x : X) → Holds xs i x → i < length xs
  holds-below xs i x e = slice_get_within xs i x e

  pub holds-one : (xs : List X) (i : ℕ) (x y : X) → Holds xs i x → Holds xs i y → x ≡ y
  holds-one xs i x y e f = same_Some x y (sym e ∙ f)

  pub held : (xs : List X) (i : ℕ) (d : X) → i < length xs → Holds xs i (get_or xs i d)
  held xs i d below = slice_get-get_or xs i d below
