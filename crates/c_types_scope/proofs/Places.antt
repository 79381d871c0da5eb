-- Places in a list whose last item comes first.
use Rattle.std.proofs.Common.{◌≡◌, ℕ, zero, suc, ◌+◌, ◌<◌, ◌≤◌, List, [], ◌∷◌, ◌++◌, length, refl, sym, ◌∙◌, ap, arith, inl, inr}
use Rattle.std.specs.Prelude.{Bool, true, false, cond, ◌==◌, if◌then◌else◌, nat_le, reverse, Option, Some, None, slice_get}
use Rattle.std.proofs.lemmas.Bool.{cases_lt, cases_eq, le-leb, lt-leb, eq-eqb, ne_eqb}
use Rattle.std.proofs.lemmas.Grind.{reverse_onto}
use Rattle.std.proofs.lemmas.List.{length-reverse, length-append}
use Rattle.c_types_scope.specs.Entries.{since, until, rest_of, first_of}

-- ---- what comes from a place on, and what before it

pub since-more : {A : Type 0} (start : ℕ) (x : A) (xs : List A) → start ≤ length xs → since start (x ∷ xs) ≡ x ∷ since start xs
since-more start x xs h = rw (le-leb start (length xs) h) refl

pub until-more : {A : Type 0} (start : ℕ) (x : A) (xs : List A) → start ≤ length xs → until start (x ∷ xs) ≡ until start xs
until-more start x xs h = rw (le-leb start (length xs) h) refl

pub since-none : {A : Type 0} (start : ℕ) (xs : List A) → length xs ≤ start → since start xs ≡ []
since-none start [] h = refl
since-none start (x ∷ xs) h = rw (lt-leb start (length xs) (omega arith)) refl

pub until-all : {A : Type 0} (start : ℕ) (xs : List A) → length xs ≤ start → until start xs ≡ xs
until-all start [] h = refl
until-all start (x ∷ xs) h = rw (lt-leb start (length xs) (omega arith)) refl

pub until-rest : {A : Type 0} (start : ℕ) (xs : List A) → start < length xs → until start (rest_of xs) ≡ until start xs
until-rest start [] h = absurd (omega arith)
until-rest start (x ∷ xs) h = sym (until-more start x xs (omega arith))

pub length-until : {A : Type 0} (start : ℕ) (xs : List A) → start ≤ length xs → length (until start xs) ≡ start
length-until start [] h = omega arith
length-until start (x ∷ xs) h = elim (cases_lt (length xs) start) [
  | inl k ↦ rw (lt-leb start (length xs) k) (omega arith)
  | inr k ↦ rw (le-leb start (length xs) k) (length-until start xs k)
]

-- ---- the item of a place

pub reverse-cons : {A : Type 0} (x : A) (xs : List A) → reverse (x ∷ xs) ≡ reverse xs ++ x ∷ []
reverse-cons x xs = reverse_onto xs x []

abbrev pub at_place : {A : Type 0} → List A → ℕ → Option A
at_place [] i = None
at_place (x ∷ xs) i = if i == length xs then Some x else at_place xs i

last-same : {A : Type 0} (xs : List A) (y : A) → slice_get (xs ++ y ∷ []) (length xs) ≡ Some y
last-same [] y = refl
last-same (x ∷ xs) y = last-same xs y

last-other : {A : Type 0} (xs : List A) (y : A) (i : ℕ) → (i ≡ length xs → ⊥) → slice_get (xs ++ y ∷ []) i ≡ slice_get xs i
last-other [] y zero n = absurd (n refl)
last-other [] y (suc i) n = refl
last-other (x ∷ xs) y zero n = refl
last-other (x ∷ xs) y (suc i) n = last-other xs y i (λ e. n (ap suc e))

slice_get-last : {A : Type 0} (xs : List A) (y : A) (i : ℕ) → slice_get (xs ++ y ∷ []) i ≡ (if i == length xs then Some y else slice_get xs i)
slice_get-last xs y i = elim (cases_eq i (length xs)) [
  | inl e ↦ rw (eq-eqb i (length xs) e) (ap (λ k. slice_get (xs ++ y ∷ []) k) e ∙ last-same xs y)
  | inr n ↦ rw (ne_eqb i (length xs) n) (last-other xs y i n)
]

pub slice_get-reverse : {A : Type 0} (xs : List A) (i : ℕ) → slice_get (reverse xs) i ≡ at_place xs i
slice_get-reverse [] i = refl
slice_get-reverse (x ∷ xs) i =
    ap (λ l. slice_get l i) (reverse-cons x xs)
    ∙ slice_get-last (reverse xs) x i
    ∙ ap (λ n. if i == n then Some x else slice_get (reverse xs) i) (length-reverse xs)
    ∙ ap (λ found. if i == length xs then Some x else found) (slice_get-reverse xs i)

pub at_place-last : {A : Type 0} (x : A) (xs : List A) → at_place (x ∷ xs) (length xs) ≡ Some x
at_place-last x xs = rw (eq-eqb (length xs) (length xs) refl) refl

pub at_place-before : {A : Type 0} (x : A) (xs : List A) (i : ℕ) → i < length xs → at_place (x ∷ xs) i ≡ at_place xs i
at_place-before x xs i h = rw (ne_eqb i (length xs) (λ e. omega arith)) refl
