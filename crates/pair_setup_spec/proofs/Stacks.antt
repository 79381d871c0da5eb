-- A function takes one number of bytes of stack at most.
use Rattle.std.proofs.Common.{◌≡◌, ◌⊎◌, inl, inr, ◌+◌, ◌<◌, ◌≤◌, ℕ, zero, suc, List, [], ◌∷◌, Contains, Some, refl, ap₂, sym, ◌∙◌, subst, arith}
use Rattle.std.specs.Prelude.{⊤, sum_by}
use Rattle.std.specs.List.{AllPairs}
use Rattle.std.proofs.lemmas.List.Kept.{AllPairs-from_increasing}
use Rattle.elf_read_spec.specs.Image.{Image, size_at}
use Rattle.code_reach_spec.specs.Code.{instr_at, opening_of, AreReachable, IsGreatest, CallsOn, IsStack, deep}

-- ---- a rising list is determined by its elements

abbrev Rising : List ℕ → Type 0
Rising [] = ⊤
Rising (x ∷ xs) = ((y : ℕ) → Contains xs y → x < y) × Rising xs

rising : (xs : List ℕ) → AllPairs (λ x y. x < y) xs → Rising xs
rising [] pairs = tt
rising (x ∷ xs) pairs = (
  λ y inside. subst (λ z. x < z) inside.2 (pairs 0 (suc inside.0) y (omega arith) (let below = inside.1 in omega arith)),
  rising xs (λ i j d before within. pairs (suc i) (suc j) d (omega arith) (omega arith)),
)

first_or_later : (x y : ℕ) (xs : List ℕ) → Contains (x ∷ xs) y → (y ≡ x) ⊎ Contains xs y
first_or_later x y xs (zero, within, e) = inl (sym e)
first_or_later x y xs (suc k, within, e) = inr (k, omega arith, e)

later : (x y : ℕ) (xs : List ℕ) → Contains xs y → Contains (x ∷ xs) y
later x y xs (k, within, e) = (suc k, omega arith, e)

same_heads : (x y : ℕ) (xs ys : List ℕ) → Rising (x ∷ xs) → Rising (y ∷ ys) → Contains (y ∷ ys) x → Contains (x ∷ xs) y → x ≡ y
same_heads x y xs ys up other inside back =
    elim (first_or_later y x ys inside) [
      | inl e ↦ e
      | inr far ↦ elim (first_or_later x y xs back) [
        | inl e ↦ sym e
        | inr away ↦ let below = other.0 x far in let above = up.0 y away in omega arith
      ]
    ]

tail_of : (x y : ℕ) (xs ys : List ℕ) → Rising (x ∷ xs) → x ≡ y → ((a : ℕ) → Contains (x ∷ xs) a → Contains (y ∷ ys) a) → (a : ℕ) → Contains xs a → Contains ys a
tail_of x y xs ys up same to a inside =
    elim (first_or_later y a ys (to a (later x a xs inside))) [
      | inl e ↦ let below = up.0 a inside in absurd (omega (arith, below, e, same))
      | inr h ↦ h
    ]

same_rising : (xs ys : List ℕ) → Rising xs → Rising ys → ((a : ℕ) → Contains xs a → Contains ys a) → ((a : ℕ) → Contains ys a → Contains xs a) → xs ≡ ys
same_rising [] [] up other to from = refl
same_rising [] (y ∷ ys) up other to from = let h = (from y (0, omega arith, refl)).1 in absurd (omega arith)
same_rising (x ∷ xs) [] up other to from = let h = (to x (0, omega arith, refl)).1 in absurd (omega arith)
same_rising (x ∷ xs) (y ∷ ys) up other to from =
    let same = same_heads x y xs ys up other (to x (0, omega arith, refl)) (from y (0, omega arith, refl)) in
    ap₂ (λ (a : ℕ) (l : List ℕ). a ∷ l) same
    (same_rising xs ys up.1 other.1 (tail_of x y xs ys up same to) (tail_of y x ys xs other (sym same) from))

pub same_places : (image : Image) (entry size : ℕ) (one two : List ℕ) → AreReachable image entry size one → AreReachable image entry size two → one ≡ two
same_places image entry size one two x y =
    same_rising one two (rising one (AllPairs-from_increasing one x.rising)) (rising two (AllPairs-from_increasing two y.rising))
    (λ a inside. (y.exactly a).1 ((x.exactly a).0 inside)) (λ a inside. (x.exactly a).1 ((y.exactly a).0 inside))

-- ---- the greatest

not_above : (P : ℕ → Type 0) (f g : ℕ → ℕ) (one two : ℕ) → ((x : ℕ) → P x → f x ≡ g x) → IsGreatest P f one → IsGreatest P g two → one ≤ two
not_above P f g one two same x y =
    elim x.reached [
      | inl e ↦ omega (arith, e)
      | inr (place, holds, is) ↦ let up = y.above place holds in let e = same place holds in omega (arith, up, e, is)
    ]

-- ---- the stack

record Depth (image : Image) (entry stack : ℕ) : Type 0 where
  size : ℕ
  deepest : ℕ
  places : List ℕ
  below : ℕ → ℕ
  sized : size_at image entry ≡ Some size
  reachable : AreReachable image entry size places
  stacks : (target : ℕ) → CallsOn image entry size target → IsStack image target (below target)
  greatest : IsGreatest (CallsOn image entry size) below deepest
  is : stack ≡ sum_by (λ address. opening_of (instr_at image address)) places + deepest

depth_of : (image : Image) (entry stack : ℕ) → IsStack image entry stack → Depth image entry stack
depth_of image _ _ (deep entry size deepest places below sized reachable stacks greatest) = record {
  size = size;
  deepest = deepest;
  places = places;
  below = below;
  sized = sized;
  reachable = reachable;
  stacks = stacks;
  greatest = greatest;
  is = refl;
}

pub one_stack : (image : Image) (entry one two : ℕ) → IsStack image entry one → IsStack image entry two → one ≡ two
one_stack image _ _ two (deep entry size deepest places below sized reachable stacks greatest) h =
    let other = depth_of image entry two h in
    let other_sized = other.sized in
    let size_is : other.size ≡ size = cc in
    let calls = λ (target : ℕ) (c : CallsOn image entry size target). subst (λ s. CallsOn image entry s target) (sym size_is) c in
    let same_below : (target : ℕ) → CallsOn image entry size target → below target ≡ other.below target =
    λ target c. one_stack image target (below target) (other.below target) (stacks target c) (other.stacks target (calls target c)) in
    let other_greatest : IsGreatest (CallsOn image entry size) other.below other.deepest = subst (λ s. IsGreatest (CallsOn image entry s) other.below other.deepest) size_is other.greatest in
    let up = not_above (CallsOn image entry size) below other.below deepest other.deepest same_below greatest other_greatest in
    let down = not_above (CallsOn image entry size) other.below below other.deepest deepest (λ target c. sym (same_below target c)) other_greatest greatest in
    let deepest_is : deepest ≡ other.deepest = omega (arith, up, down) in
    let places_are = same_places image entry size places other.places reachable (subst (λ s. AreReachable image entry s other.places) size_is other.reachable) in
    ap₂ (λ (l : List ℕ) (n : ℕ). sum_by (λ address. opening_of (instr_at image address)) l + n) places_are deepest_is ∙ sym other.is
