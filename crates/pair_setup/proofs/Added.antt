-- What is added to a list for each item of another one.
use Rattle.std.proofs.Common.{◌≡◌, ◌⊎◌, ℕ, ◌<◌, List, [], ◌∷◌, ◌++◌, length, get_or, inl, inr, arith, sym, subst}
use Rattle.std.specs.Prelude.{Contains, OnOk, IfOk, IfErr, MatchResult, Result, Ok, Err, Option, Some, None, IsSome}
use Rattle.std.proofs.Common.{true≢false, refl}
use Rattle.std.proofs.lemmas.List.Elements.{Contains-append_left, Contains-append_cases, Contains-push}
use Rattle.pair_setup_calls.specs.Graph.{Grows}
use Rattle.pair_setup_calls.proofs.Growing.{grows-as, grows-then, grows-kept}
use Rattle.pair_setup.specs.Names.{IsOf}

-- ---- results

pub on-ok : {T E : Type 0} (r : Result T E) (P Q : Type 0) → (P → Q) → OnOk r P → OnOk r Q
on-ok (Ok t) P Q f h = f h
on-ok (Err e) P Q f h = tt

pub if-ok : {T E : Type 0} (r : Result T E) (P Q : T → Type 0) → ((t : T) → P t → Q t) → IfOk r P → IfOk r Q
if-ok (Ok t) P Q f h = f t h
if-ok (Err e) P Q f h = tt

-- the same, where something is said of errors too
pub matched-ok : {T E : Type 0} (r : Result T E) (P Q : T → Type 0) (F : E → Type 0) → ((t : T) → P t → Q t) → MatchResult r P F → IfOk r Q
matched-ok (Ok t) P Q F f h = f t h
matched-ok (Err e) P Q F f h = tt

pub if-err : {T E : Type 0} (r : Result T E) (P Q : E → Type 0) → ((e : E) → P e → Q e) → IfErr r P → IfErr r Q
if-err (Ok t) P Q f h = tt
if-err (Err e) P Q f h = f e h

pub some-of : {X : Type 0} (o : Option X) → IsSome o → (x : X) × (o ≡ Some x)
some-of None some = absurd (true≢false (sym some))
some-of (Some x) some = (x, refl)

pub some-is : {X : Type 0} (o : Option X) (x : X) → o ≡ Some x → IsSome o
some-is o x e = subst IsSome (sym e) refl

-- ---- lists

pub none_contained : {X : Type 0} (x : X) → Contains [] x → ⊥
none_contained x (k, below, here) = omega (arith, below)

pub only_contained : {X : Type 0} (x t : X) → Contains (x ∷ []) t → t ≡ x
only_contained x t (k, below, here) = first k below here
  where
    first : (k : ℕ) → k < length (x ∷ []) → get_or (x ∷ []) k t ≡ t → t ≡ x
    first k below here = let zero : k ≡ 0 = omega (arith, below) in sym (subst (λ j. get_or (x ∷ []) j t ≡ t) zero here)

-- ---- each item of a list adds what it gives

module _ {X : Type 0} (R : X → ℕ → Type 0) where
  pub of-none : (xs : List ℕ) → Grows (IsOf R []) xs xs
  of-none xs = grows-kept (IsOf R []) xs (λ t h. absurd (none_contained h.0 h.1))

  pub of-more : (list : List X) (x : X) (old now new : List ℕ) → Grows (IsOf R list) old now → Grows (R x) now new → Grows (IsOf R (list ++ x ∷ [])) old new
  of-more list x old now new g h =
      grows-as (λ t. IsOf R list t ⊎ R x t) (IsOf R (list ++ x ∷ [])) old new there back (grows-then (IsOf R list) (R x) old now new g h)
    where
      there : (t : ℕ) → IsOf R list t ⊎ R x t → IsOf R (list ++ x ∷ []) t
      there t (inl has) = (has.0, Contains-append_left list (x ∷ []) has.0 has.1, has.2)
      there t (inr is) = (x, Contains-push list x, is)

      back : (t : ℕ) → IsOf R (list ++ x ∷ []) t → IsOf R list t ⊎ R x t
      back t (other, among, is) = elim (Contains-append_cases list (x ∷ []) other among) [
        | inl before ↦ inl (other, before, is)
        | inr last ↦ inr (subst (λ y. R y t) (only_contained x other last) is)
      ]

-- ---- each item of a list adds itself, if it has the property

module _ (Q : ℕ → Type 0) where
  pub those-none : (xs : List ℕ) → Grows (λ t. Contains [] t × Q t) xs xs
  those-none xs = grows-kept (λ t. Contains [] t × Q t) xs (λ t h. absurd (none_contained t h.0))

  pub those-more : (list : List ℕ) (x : ℕ) (old now new : List ℕ) → Grows (λ t. Contains list t × Q t) old now → Grows (λ t. (t ≡ x) × Q t) now new
      → Grows (λ t. Contains (list ++ x ∷ []) t × Q t) old new
  those-more list x old now new g h =
      grows-as (λ t. (Contains list t × Q t) ⊎ ((t ≡ x) × Q t)) (λ t. Contains (list ++ x ∷ []) t × Q t) old new there back
      (grows-then (λ t. Contains list t × Q t) (λ t. (t ≡ x) × Q t) old now new g h)
    where
      there : (t : ℕ) → (Contains list t × Q t) ⊎ ((t ≡ x) × Q t) → Contains (list ++ x ∷ []) t × Q t
      there t (inl has) = (Contains-append_left list (x ∷ []) t has.0, has.1)
      there t (inr is) = (subst (Contains (list ++ x ∷ [])) (sym is.0) (Contains-push list x), is.1)

      back : (t : ℕ) → Contains (list ++ x ∷ []) t × Q t → (Contains list t × Q t) ⊎ ((t ≡ x) × Q t)
      back t (among, q) = elim (Contains-append_cases list (x ∷ []) t among) [
        | inl before ↦ inl (before, q)
        | inr last ↦ inr (only_contained x t last, q)
      ]
