-- The words of a table: those that are added, and whether each is inside.
use Rattle.std.proofs.Common.{◌≡◌, ◌∙◌, inl, inr, ℕ, zero, suc, ◌+◌, ◌-◌, ◌*◌, ◌<◌, ◌&&◌, ◌||◌, Bool, true, false, refl, sym, ap, subst, arith, List, [], ◌∷◌, ◌++◌}
use Rattle.std.specs.Prelude.{Contains}
use Rattle.std.specs.List.{list_all, flat_map}
use Rattle.std.proofs.lemmas.Bool.{cases_lt, and_from}
use Rattle.std.proofs.lemmas.Grind.{flat_map-append}
use Rattle.std.proofs.lemmas.List.{append-nil}
use Rattle.elf_read_spec.specs.Image.{Image}
use Rattle.code_reach_spec.specs.Code.{aligned}
use Rattle.code_reach_spec.specs.FaultAt.{some_target}
use Rattle.code_reach_tables.specs.Tables.{target_at, targets_from}
use Rattle.code_reach.specs.Growth.{Grows, IsInside}
use Rattle.code_reach.proofs.Growing.{inside-empty, inside-append, target-more, target-none}

no-words : (image : Image) (first : ℕ) → targets_from image first 0 ≡ []
unfolding targets_from
no-words image first = refl

word-more : (image : Image) (first count : ℕ) → targets_from image first (count + 1) ≡ targets_from image first count ++ target_at image (first + 4 * count) ∷ []
unfolding targets_from
word-more image first zero = ap (λ a. target_at image a ∷ []) {x = first} {y = first + 4 * 0} (omega arith)
word-more image first (suc count) =
    ap (λ n. targets_from image first n) {x = suc count + 1} {y = suc (count + 1)} (omega arith)
    ∙ ap (λ (l : List ℕ). target_at image first ∷ l) (word-more image (first + 4) count
    ∙ ap (λ a. targets_from image (first + 4) count ++ target_at image a ∷ []) {x = first + 4 + 4 * count} {y = first + 4 * suc count} (omega arith))

-- ---- those that are added

pub targets-begun : (image : Image) (first : ℕ) (xs : List ℕ) → Grows (Contains (targets_from image first 0)) xs xs
targets-begun image first xs = subst (λ (ts : List ℕ). Grows (Contains ts) xs xs) (sym (no-words image first)) (target-none xs)

pub targets-more : (image : Image) (first count : ℕ) (xs ys zs : List ℕ) → Grows (Contains (targets_from image first count)) xs ys
    → Grows (λ t. t ≡ target_at image (first + 4 * count)) ys zs → Grows (Contains (targets_from image first (count + 1))) xs zs
targets-more image first count xs ys zs g h =
    subst (λ (ts : List ℕ). Grows (Contains ts) xs zs) (sym (word-more image first count))
    (target-more (targets_from image first count) (target_at image (first + 4 * count)) xs ys zs g h)

pub inside-begun : (image : Image) (entry size first : ℕ) (xs : List ℕ) → Grows (IsInside entry size (flat_map aligned (targets_from image first 0))) xs xs
inside-begun image entry size first xs =
    subst (λ (ts : List ℕ). Grows (IsInside entry size (flat_map aligned ts)) xs xs) (sym (no-words image first)) (inside-empty entry size xs)

pub inside-more : (image : Image) (entry size first count : ℕ) (xs ys zs : List ℕ) → Grows (IsInside entry size (flat_map aligned (targets_from image first count))) xs ys
    → Grows (IsInside entry size (aligned (target_at image (first + 4 * count)))) ys zs → Grows (IsInside entry size (flat_map aligned (targets_from image first (count + 1)))) xs zs
inside-more image entry size first count xs ys zs g h =
    subst (λ (ts : List ℕ). Grows (IsInside entry size ts) xs zs)
    (sym (ap (λ (ts : List ℕ). flat_map aligned ts) (word-more image first count) ∙ (flat_map-append aligned (targets_from image first count) (here ∷ [])
    ∙ ap (λ (ts : List ℕ). flat_map aligned (targets_from image first count) ++ ts) (append-nil (aligned here)))))
    (inside-append entry size (flat_map aligned (targets_from image first count)) (aligned here) xs ys zs g h)
  where
    here : ℕ
    here = target_at image (first + 4 * count)

-- ---- whether each is inside

pub all-pass : (P : ℕ → Bool) (image : Image) (first count : ℕ) → ((j : ℕ) → j < count → P (target_at image (first + 4 * j)) ≡ true) → list_all P (targets_from image first count) ≡ true
unfolding targets_from
all-pass P image first zero each = refl
all-pass P image first (suc count) each =
    and_from (P (target_at image first)) (list_all P (targets_from image (first + 4) count))
    (ap (λ a. P (target_at image a)) {x = first} {y = first + 4 * 0} (omega arith) ∙ each 0 (omega arith))
    (all-pass P image (first + 4) count (λ j below.
    ap (λ a. P (target_at image a)) {x = first + 4 + 4 * j} {y = first + 4 * suc j} (omega arith) ∙ each (suc j) (omega (arith, below))))

and-right : (a b : Bool) → b ≡ false → (a && b) ≡ false
and-right true b e = e
and-right false b e = refl

pub one-fails : (P : ℕ → Bool) (image : Image) (first count k : ℕ) → k < count → P (target_at image (first + 4 * k)) ≡ false → list_all P (targets_from image first count) ≡ false
unfolding targets_from
one-fails P image first zero k below fails = absurd (omega (arith, below))
one-fails P image first (suc count) zero below fails =
    ap (λ b. b && list_all P (targets_from image (first + 4) count)) (ap (λ a. P (target_at image a)) {x = first} {y = first + 4 * 0} (omega arith) ∙ fails)
one-fails P image first (suc count) (suc k) below fails =
    and-right (P (target_at image first)) (list_all P (targets_from image (first + 4) count))
    (one-fails P image (first + 4) count k (omega (arith, below)) (ap (λ a. P (target_at image a)) {x = first + 4 + 4 * k} {y = first + 4 * suc k} (omega arith) ∙ fails))

-- one more passes
pub each-more : (P : ℕ → Bool) (k : ℕ) → ((j : ℕ) → j < k → P j ≡ true) → P k ≡ true → (j : ℕ) → j < k + 1 → P j ≡ true
each-more P k each last j below = elim (cases_lt j k) [
  | inl before ↦ each j before
  | inr after ↦ ap P {x = j} {y = k} (omega (arith, after, below)) ∙ last
]

-- ---- targets in a run-up

pub none-target : (P : ℕ → Bool) (address count : ℕ) → ((j : ℕ) → j < count → P (address - 4 * j) ≡ false) → some_target P address count ≡ false
none-target P address zero each = refl
none-target P address (suc count) each = by (P address) (some_target P (address - 4) count)
    (ap P {x = address} {y = address - 4 * 0} (omega arith) ∙ each 0 (omega arith))
    (none-target P (address - 4) count (λ j below. ap P {x = address - 4 - 4 * j} {y = address - 4 * suc j} (omega arith) ∙ each (suc j) (omega (arith, below))))
  where
    by : (a b : Bool) → a ≡ false → b ≡ false → (a || b) ≡ false
    by a b e f = ap (λ x. x || b) e ∙ f

pub none-more : (P : ℕ → Bool) (address k : ℕ) → ((j : ℕ) → j < k → P (address - 4 * j) ≡ false) → P (address - 4 * k) ≡ false → (j : ℕ) → j < k + 1 → P (address - 4 * j) ≡ false
none-more P address k each last j below = elim (cases_lt j k) [
  | inl before ↦ each j before
  | inr after ↦ ap (λ i. P (address - 4 * i)) {x = j} {y = k} (omega (arith, after, below)) ∙ last
]

or-right : (a b : Bool) → b ≡ true → (a || b) ≡ true
or-right true b e = refl
or-right false b e = e

pub is-target : (P : ℕ → Bool) (address count k : ℕ) → k < count → P (address - 4 * k) ≡ true → some_target P address count ≡ true
is-target P address zero k below is = absurd (omega (arith, below))
is-target P address (suc count) zero below is = ap (λ b. b || some_target P (address - 4) count) (ap P {x = address} {y = address - 4 * 0} (omega arith) ∙ is)
is-target P address (suc count) (suc k) below is =
    or-right (P address) (some_target P (address - 4) count) (is-target P (address - 4) count k (omega (arith, below)) (ap P {x = address - 4 - 4 * k} {y = address - 4 * suc k} (omega arith) ∙ is))
