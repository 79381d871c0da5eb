-- Lists that have one item more.
use Rattle.std.proofs.Common.{◌≡◌, ◌∙◌, ℕ, ◌<◌, List, [], ◌∷◌, ◌++◌, length, get_or, Some, refl, sym, arith}
use Rattle.std.specs.Prelude.{slice_get}
use Rattle.std.proofs.lemmas.List.{get_or_append_left}
use Rattle.std.proofs.lemmas.Option.{slice_get-get_or, get_or_from_slice_get, same_Some}
use Rattle.term_bank.proofs.Growth.{slice_get-front, slice_get-seam}

module _ {X : Type 0} where
  pub nothing_left : (xs : List X) → length xs ≡ 0 → xs ≡ []
  nothing_left [] h = refl
  nothing_left (x ∷ xs) h = absurd (omega (arith, h))

  pub read_before : (xs : List X) (x y : X) (k : ℕ) → k < length xs → slice_get (xs ++ x ∷ []) k ≡ Some y → slice_get xs k ≡ Some y
  read_before xs x y k less there =
      let here = slice_get-get_or xs k x less in
      here ∙ sym (slice_get-front xs (x ∷ []) k (get_or xs k x) here) ∙ there

  pub read_last : (xs : List X) (x y : X) → slice_get (xs ++ x ∷ []) (length xs) ≡ Some y → x ≡ y
  read_last xs x y there = same_Some x y (sym (slice_get-seam xs [] x) ∙ there)

  pub default_before : (xs : List X) (x d : X) (k : ℕ) → k < length xs → get_or (xs ++ x ∷ []) k d ≡ get_or xs k d
  default_before xs x d k less = get_or_append_left xs (x ∷ []) d k less

  pub default_last : (xs : List X) (x d : X) → get_or (xs ++ x ∷ []) (length xs) d ≡ x
  default_last xs x d = get_or_from_slice_get (xs ++ x ∷ []) (length xs) x d (slice_get-seam xs [] x)
