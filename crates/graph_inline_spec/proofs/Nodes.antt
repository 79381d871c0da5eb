-- The nodes of a graph with a call inlined.
use Rattle.std.proofs.Common.{◌≡◌, ◌∙◌, ◌≢◌, ℕ, ◌+◌, ◌<◌, zero, suc, refl, sym, ap, arith, List, [], ◌∷◌, ◌++◌, map, length, Some, option_map}
use Rattle.std.specs.Prelude.{slice_get, slice_set}
use Rattle.std.proofs.lemmas.List.{length-set}
use Rattle.std.proofs.lemmas.Option.{slice_get-map}

pub get_left : {X : Type 0} (xs ys : List X) (i : ℕ) → i < length xs → slice_get (xs ++ ys) i ≡ slice_get xs i
get_left [] ys i less = absurd (omega (arith, less))
get_left (x ∷ xs) ys zero less = refl
get_left (x ∷ xs) ys (suc i) less = get_left xs ys i (omega (arith, less))

pub get_right : {X : Type 0} (xs ys : List X) (i : ℕ) → slice_get (xs ++ ys) (length xs + i) ≡ slice_get ys i
get_right [] ys i = let e : 0 + i ≡ i = omega arith in ap (slice_get ys) e
get_right (x ∷ xs) ys i = let e : suc (length xs) + i ≡ suc (length xs + i) = omega arith in ap (slice_get (x ∷ (xs ++ ys))) e ∙ get_right xs ys i

get_set_same : {X : Type 0} (xs : List X) (i : ℕ) (x : X) → i < length xs → slice_get (slice_set xs i x) i ≡ Some x
get_set_same [] i x less = absurd (omega (arith, less))
get_set_same (y ∷ xs) zero x less = refl
get_set_same (y ∷ xs) (suc i) x less = get_set_same xs i x (omega (arith, less))

get_set_other : {X : Type 0} (xs : List X) (i j : ℕ) (x : X) → j ≢ i → slice_get (slice_set xs i x) j ≡ slice_get xs j
get_set_other [] i j x other = refl
get_set_other (y ∷ xs) zero zero x other = absurd (other refl)
get_set_other (y ∷ xs) zero (suc j) x other = refl
get_set_other (y ∷ xs) (suc i) zero x other = refl
get_set_other (y ∷ xs) (suc i) (suc j) x other = get_set_other xs i j x (λ e. other (ap suc e))

-- one node is another, more nodes follow, and a last one
module _ {X : Type 0} (xs : List X) (n : ℕ) (x : X) (f : X → X) (ys : List X) (z : X) where
  abbrev pub whole : List X
  whole = slice_set xs n x ++ (map f ys ++ z ∷ [])

  pub get_before : (i : ℕ) → i < length xs → i ≢ n → slice_get whole i ≡ slice_get xs i
  get_before i less other =
      get_left (slice_set xs n x) (map f ys ++ z ∷ []) i (omega (arith, less, length-set xs n x)) ∙ get_set_other xs n i x other

  pub get_here : n < length xs → slice_get whole n ≡ Some x
  get_here less = get_left (slice_set xs n x) (map f ys ++ z ∷ []) n (omega (arith, less, length-set xs n x)) ∙ get_set_same xs n x less

  after_first : (i : ℕ) → slice_get whole (length xs + i) ≡ slice_get (map f ys ++ z ∷ []) i
  after_first i = ap (λ (k : ℕ). slice_get whole (k + i)) (sym (length-set xs n x)) ∙ get_right (slice_set xs n x) (map f ys ++ z ∷ []) i

  lengths : (ws : List X) → length (map f ws) ≡ length ws
  lengths [] = refl
  lengths (w ∷ ws) = ap suc (lengths ws)

  pub get_inside : (i : ℕ) → i < length ys → slice_get whole (length xs + i) ≡ option_map f (slice_get ys i)
  get_inside i less = after_first i ∙ get_left (map f ys) (z ∷ []) i (omega (arith, less, lengths ys)) ∙ slice_get-map f ys i

  pub get_last : slice_get whole (length xs + length ys) ≡ Some z
  get_last =
      let e : length ys ≡ length (map f ys) + 0 = omega (arith, lengths ys) in
      after_first (length ys) ∙ ap (slice_get (map f ys ++ z ∷ [])) e ∙ get_right (map f ys) (z ∷ []) 0
