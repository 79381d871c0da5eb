-- Whether some element of a list, seen by a function, has a property.
use Rattle.std.proofs.Common.{◌≡◌, ◌∙◌, ℕ, ◌<◌, ◌≤◌, List, map, length, get_or, sym, ap, subst, inl, inr, arith}
use Rattle.std.specs.Prelude.{Any}
use Rattle.std.proofs.Math.ListN.{get_or-map}
use Rattle.std.proofs.lemmas.List.{length-map, get_or_default}
use Rattle.std.proofs.lemmas.Option.{slice_get_cases}

module _ {X Y : Type 0} (P : Y → Type 0) (f : X → Y) (xs : List X) where
  -- the one at i has it
  pub some_at : (i : ℕ) (x : X) → i < length xs → x ≡ get_or xs i x → P (f x) → Any P (map f xs)
  some_at i x within is p =
      let same : length (map f xs) ≡ length xs = length-map xs f in
      (i, f x, omega arith, get_or-map f xs i x ∙ ap f (sym is), p)

  -- those before i, which are all, lack it
  pub nowhere : (i : ℕ) → length xs ≤ i → ((k : ℕ) (d : X) → k < i → P (f (get_or xs k d)) → ⊥) → Any P (map f xs) → ⊥
  nowhere i all none (k, y, within, here, p) =
      let same : length (map f xs) ≡ length xs = length-map xs f in
      elim (slice_get_cases xs k).1 [
        | inl (x, inside, found, is) ↦
            let seen : y ≡ f (get_or xs k x) = sym here ∙ get_or_default (map f xs) k y (f x) within ∙ get_or-map f xs k x in
            none k x (omega arith) (subst P seen p)
        | inr (past, missing) ↦ absurd (omega arith)
      ]
