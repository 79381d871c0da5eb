-- What holds of each element of a list.
use Rattle.std.proofs.Common.{◌≡◌, ℕ, ◌<◌, ◌≤◌, Bool, true, false, List, map, length, get_or, sym, subst, arith}
use Rattle.std.specs.Prelude.{◌↔◌}
use Rattle.std.specs.List.{All}
use Rattle.std.proofs.Math.ListN.{get_or-map}
use Rattle.std.proofs.lemmas.List.Elements.{All-map}
use Rattle.std.proofs.lemmas.List.{length-map}

module _ {X : Type 0} (P : X → Type 0) (xs : List X) where
  -- it holds of those before i, which are all
  pub each_holds : (i : ℕ) → length xs ≤ i → ((k : ℕ) (d : X) → k < i → P (get_or xs k d)) → All P xs
  each_holds i all h = λ k d less. h k d (omega arith)

  -- it doesn't hold of the one at i
  pub one_fails : (i : ℕ) (x : X) → i < length xs → x ≡ get_or xs i x → (P x → ⊥) → All P xs → ⊥
  one_fails i x within is fails all = fails (subst P (sym is) (all i x within))

pub never : (b : Bool) → b ≡ true → b ≡ false → ⊥
never b yes_is no_is = cc

-- what is the same of each element, seen by a function, is the same of all
module _ {X Y : Type 0} (Q W : X → Type 0) (P : Y → Type 0) (f : X → Y) (same : (x : X) → W x → Q x ↔ P (f x)) (xs : List X) (within : All W xs) where
  pub all_same : All Q xs ↔ All P (map f xs)
  all_same = (
    λ all. All-map P f xs (λ k d less. (same (get_or xs k d) (within k d less)).0 (all k d less)),
    λ all k d less. (same (get_or xs k d) (within k d less)).1
        (subst P (get_or-map f xs k d) (all k (f d) (let long : length (map f xs) ≡ length xs = length-map xs f in omega arith))),
  )
