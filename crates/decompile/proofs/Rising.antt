-- The runs of fixed bytes of an image are one list.
use Rattle.std.proofs.Common.{◌≡◌, ◌⊎◌, inl, inr, ℕ, zero, suc, ◌+◌, ◌<◌, ◌≤◌, refl, sym, ap, subst, arith, List, [], ◌∷◌, length, map, get_or, Some}
use Rattle.std.specs.Prelude.{⊤, slice_get, Contains}
use Rattle.std.specs.List.Sorted.{IsStrictlyIncreasing}
use Rattle.elf_read_spec.specs.Image.{Image}
use Rattle.memory_spec.specs.Runs.{Run}
use Rattle.elf_read_spec.specs.Runs.{AreRuns}

-- ---- members

Among : Run → List Run → Type 0
Among r [] = ⊥
Among r (x ∷ xs) = (r ≡ x) ⊎ Among r xs

among_from : (xs : List Run) (r : Run) → Contains xs r → Among r xs
unfolding Among
among_from [] r (k, below, is) = absurd (omega arith)
among_from (x ∷ xs) r (zero, below, is) = inl (sym is)
among_from (x ∷ xs) r (suc k, below, is) = inr (among_from xs r (k, omega arith, is))

contains_from : (xs : List Run) (r : Run) → Among r xs → Contains xs r
unfolding Among
contains_from [] r h = absurd h
contains_from (x ∷ xs) r (inl e) = (0, omega arith, sym e)
contains_from (x ∷ xs) r (inr h) =
    let there : Contains xs r = contains_from xs r h in
    (suc there.0, omega (arith, there.1), there.2)

-- ---- starts that rise

Rising : List Run → Type 0
Rising [] = ⊤
Rising (x ∷ []) = ⊤
Rising (x ∷ y ∷ ys) = (x.start < y.start) × Rising (y ∷ ys)

rises : (xs : List Run) → IsStrictlyIncreasing (map (λ run. run.start) xs) → Rising xs
unfolding Rising
rises [] up = tt
rises (x ∷ []) up = tt
rises (x ∷ y ∷ ys) up = (up 0 (omega arith), rises (y ∷ ys) (λ k h. up_next k h))
  where
    up_next : (k : ℕ) → k + 1 < length (map (λ run. run.start) (y ∷ ys))
        → get_or (map (λ run. run.start) (y ∷ ys)) k 0 < get_or (map (λ run. run.start) (y ∷ ys)) (k + 1) 0
    up_next k h =
        let e : suc k + 1 ≡ suc (k + 1) = omega arith in
        subst (λ n. get_or (map (λ run. run.start) (y ∷ ys)) k 0 < get_or (map (λ run. run.start) (x ∷ y ∷ ys)) n 0) e (up (suc k) (omega arith))

tail_rises : (x : Run) (xs : List Run) → Rising (x ∷ xs) → Rising xs
unfolding Rising
tail_rises x [] up = tt
tail_rises x (y ∷ ys) up = up.1

above : (x : Run) (xs : List Run) (r : Run) → Rising (x ∷ xs) → Among r xs → x.start < r.start
unfolding Rising Among
above x [] r up h = absurd h
above x (y ∷ ys) r up (inl e) = omega (arith, up.0, ap (λ (z : Run). z.start) e)
above x (y ∷ ys) r up (inr h) = omega (arith, up.0, above y ys r up.1 h)

-- the run at a place begins no lower than its place
place_low : (x : Run) (xs : List Run) (n : ℕ) (r : Run) → Rising (x ∷ xs) → slice_get (x ∷ xs) n ≡ Some r → x.start + n ≤ r.start
unfolding Rising
place_low x xs zero r up e =
    let same : x ≡ r = cc in
    omega (arith, ap (λ (z : Run). z.start) same)
place_low x [] (suc n) r up e = absurd cc
place_low x (y ∷ ys) (suc n) r up e = omega (arith, up.0, place_low y ys n r up.1 e)

-- ---- lists with the same members

heads : (x : Run) (xs : List Run) (y : Run) (ys : List Run) → Rising (x ∷ xs) → Rising (y ∷ ys) → Among x (y ∷ ys) → Among y (x ∷ xs) → x ≡ y
unfolding Among
heads x xs y ys up down (inl e) q = e
heads x xs y ys up down (inr p) (inl e) = sym e
heads x xs y ys up down (inr p) (inr q) = absurd (omega (arith, above y ys x down p, above x xs y up q))

same_members : (xs ys : List Run) → Rising xs → Rising ys → ((r : Run) → Among r xs → Among r ys) → ((r : Run) → Among r ys → Among r xs) → xs ≡ ys
unfolding Among
same_members [] [] up down to from = refl
same_members [] (y ∷ ys) up down to from = absurd (from y (inl refl))
same_members (x ∷ xs) [] up down to from = absurd (to x (inl refl))
same_members (x ∷ xs) (y ∷ ys) up down to from =
    let head : x ≡ y = heads x xs y ys up down (to x (inl refl)) (from y (inl refl)) in
    let tail : xs ≡ ys = same_members xs ys (tail_rises x xs up) (tail_rises y ys down) (λ r h. onward r h (to r (inr h))) (λ r h. back r h (from r (inr h))) in
    cc
  where
    first : x ≡ y
    first = heads x xs y ys up down (to x (inl refl)) (from y (inl refl))

    onward : (r : Run) → Among r xs → (r ≡ y) ⊎ Among r ys → Among r ys
    onward r h (inl e) = absurd (omega (arith, above x xs r up h, ap (λ (z : Run). z.start) e, ap (λ (z : Run). z.start) first))
    onward r h (inr there) = there

    back : (r : Run) → Among r ys → (r ≡ x) ⊎ Among r xs → Among r xs
    back r h (inl e) = absurd (omega (arith, above y ys r down h, ap (λ (z : Run). z.start) e, ap (λ (z : Run). z.start) first))
    back r h (inr there) = there

pub one_list : (image : Image) (xs ys : List Run) → AreRuns image xs → AreRuns image ys → xs ≡ ys
one_list image xs ys one other =
    same_members xs ys (rises xs one.rising) (rises ys other.rising)
    (λ r h. among_from ys r ((other.exactly r).1 ((one.exactly r).0 (contains_from xs r h))))
    (λ r h. among_from xs r ((one.exactly r).1 ((other.exactly r).0 (contains_from ys r h))))

pub starts_low : (image : Image) (runs : List Run) (n : ℕ) (r : Run) → AreRuns image runs → slice_get runs n ≡ Some r → n ≤ r.start
starts_low image runs n r are e = at runs (rises runs are.rising) e
  where
    at : (xs : List Run) → Rising xs → slice_get xs n ≡ Some r → n ≤ r.start
    at [] up none = absurd cc
    at (x ∷ xs) up is = omega (arith, place_low x xs n r up is)
