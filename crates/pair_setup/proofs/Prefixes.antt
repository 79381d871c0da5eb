-- A list before and after one of its items.
use Rattle.std.proofs.Common.{◌≡◌, ◌∙◌, ℕ, ◌+◌, ◌<◌, List, [], ◌∷◌, ◌++◌, length, map, take, drop, get_or, sym, ap, subst}
use Rattle.std.specs.Prelude.{Contains, Some, slice_get}
use Rattle.std.proofs.lemmas.List.{take_more, take-append-drop, drop_more, length-map, get_or-map}
use Rattle.std.proofs.lemmas.List.Elements.{Contains-get_or}
use Rattle.std.proofs.lemmas.Option.{slice_get_within, slice_get-get_or, get_or_from_slice_get}

module _ {X : Type 0} (list : List X) where
  pub split-at : (i : ℕ) (x : X) → slice_get list i ≡ Some x → list ≡ take i list ++ (x ∷ drop (i + 1) list)
  split-at i x is =
      let below = slice_get_within list i x is in
      sym (take-append-drop i list)
      ∙ ap (λ l. take i list ++ l) (drop_more list i x below ∙ ap (λ y. y ∷ drop (i + 1) list) (get_or_from_slice_get list i x x is))

  -- one item more
  pub next-taken : (i : ℕ) (x : X) → slice_get list i ≡ Some x → take (i + 1) list ≡ take i list ++ x ∷ []
  next-taken i x is =
      take_more list i x (slice_get_within list i x is) ∙ ap (λ y. take i list ++ y ∷ []) (get_or_from_slice_get list i x x is)

  pub got-contained : (i : ℕ) (x : X) → slice_get list i ≡ Some x → Contains list x
  got-contained i x is = subst (Contains list) (get_or_from_slice_get list i x x is) (Contains-get_or list i x (slice_get_within list i x is))

  pub contained-got : (x : X) → Contains list x → (i : ℕ) × (slice_get list i ≡ Some x)
  contained-got x (k, below, here) = (k, slice_get-get_or list k x below ∙ ap Some here)

-- the item of a list that is made of another one
pub mapped-at : {X Y : Type 0} (f : X → Y) (list : List X) (i : ℕ) (d : X) → i < length list → slice_get (map f list) i ≡ Some (f (get_or list i d))
mapped-at f list i d below =
    slice_get-get_or (map f list) i (f d) (subst (λ n. i < n) (sym (length-map list f)) below) ∙ ap Some (get_or-map f list i d (f d) below)
