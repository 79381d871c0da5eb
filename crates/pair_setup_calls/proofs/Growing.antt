-- How lists grow by items that have a property.
use Rattle.std.proofs.Common.{◌≡◌, ◌⊎◌, ◌+◌, ◌<◌, ℕ, Bool, true, false, cond, List, [], ◌∷◌, ◌++◌, length, get_or, refl, sym, ◌∙◌, ap, subst, inl, inr, append_assoc, arith, eqb-true}
use Rattle.std.specs.Prelude.{Contains, nat_eq}
use Rattle.std.specs.List.{list_any}
use Rattle.std.proofs.lemmas.List.{append-nil}
use Rattle.std.proofs.lemmas.List.Elements.{Contains-append_left, Contains-append_cases, Contains-get_or, Contains-push}
use Rattle.indexmap.specs.IndexSet.{insert_key}
use Rattle.indexmap.proofs.CallerLemmas.{Contains-list_any}
use Rattle.std.proofs.lemmas.List.{get_or_default}
use Rattle.pair_setup_calls.specs.Graph.{Grows}

pub none_contained : (t : ℕ) → Contains [] t → ⊥
none_contained t (k, below, here) = omega (arith, below)

pub only_contained : (x t : ℕ) → Contains (x ∷ []) t → t ≡ x
only_contained x t (k, below, here) = first k below here
  where
    first : (k : ℕ) → k < length (x ∷ []) → get_or (x ∷ []) k t ≡ t → t ≡ x
    first k below here = let zero : k ≡ 0 = omega (arith, below) in sym (subst (λ j. get_or (x ∷ []) j t ≡ t) zero here)

-- nothing is new
pub grows-kept : (P : ℕ → Type 0) (xs : List ℕ) → ((t : ℕ) → P t → Contains xs t) → Grows P xs xs
grows-kept P xs all = record { more = []; grown = sym (append-nil xs); all = all; only = λ t h. absurd (none_contained t h) }

pub grows-push : (xs : List ℕ) (x : ℕ) → Grows (λ t. t ≡ x) xs (xs ++ x ∷ [])
grows-push xs x = record {
  more = x ∷ [];
  grown = refl;
  all = λ t e. subst (λ z. Contains (xs ++ x ∷ []) z) (sym e) (Contains-push xs x);
  only = λ t h. only_contained x t h;
}

pub grows-insert : (xs : List ℕ) (x : ℕ) → Grows (λ t. t ≡ x) xs (insert_key nat_eq xs x)
grows-insert xs x = at (list_any (nat_eq x) xs) refl
  where
    at : (b : Bool) → list_any (nat_eq x) xs ≡ b → Grows (λ t. t ≡ x) xs (cond b xs (xs ++ x ∷ []))
    at true e = grows-kept (λ t. t ≡ x) xs (λ t h. subst (λ z. Contains xs z) (sym h) (Contains-list_any nat_eq (λ a b s. eqb-true a b s) xs x e))
    at false e = grows-push xs x

pub grows-as : (P Q : ℕ → Type 0) (xs ys : List ℕ) → ((t : ℕ) → P t → Q t) → ((t : ℕ) → Q t → P t) → Grows P xs ys → Grows Q xs ys
grows-as P Q xs ys there back g = record { more = g.more; grown = g.grown; all = λ t q. g.all t (back t q); only = λ t h. there t (g.only t h) }

pub grows-then : (P Q : ℕ → Type 0) (xs ys zs : List ℕ) → Grows P xs ys → Grows Q ys zs → Grows (λ t. P t ⊎ Q t) xs zs
grows-then P Q xs ys zs g h = record {
  more = g.more ++ h.more;
  grown = h.grown ∙ (ap (λ l. l ++ h.more) g.grown ∙ append_assoc xs g.more h.more);
  all = λ t either. elim either [ inl p ↦ subst (λ l. Contains l t) (sym h.grown) (Contains-append_left ys h.more t (g.all t p)) | inr q ↦ h.all t q ];
  only = λ t among. elim (Contains-append_cases g.more h.more t among) [ inl first ↦ inl (g.only t first) | inr second ↦ inr (h.only t second) ];
}

-- ---- the first so many of a list

-- it is one of the first so many
abbrev pub IsAmong : List ℕ → (count t : ℕ) → Type 0
IsAmong xs count t = (k : ℕ) × (k < count) × (get_or xs k 0 ≡ t)

module _ (items : List ℕ) where
  pub among-none : (xs : List ℕ) → Grows (IsAmong items 0) xs xs
  among-none xs = grows-kept (IsAmong items 0) xs (λ t c. absurd (none t c))
    where
      none : (t : ℕ) → IsAmong items 0 t → ⊥
      none t (k, below, here) = omega (arith, below)

  pub among-more : (index here : ℕ) → here ≡ get_or items index 0 → (xs ys zs : List ℕ) → Grows (IsAmong items index) xs ys
      → Grows (λ t. t ≡ here) ys zs → Grows (IsAmong items (index + 1)) xs zs
  among-more index here is xs ys zs g h =
      grows-as (λ t. IsAmong items index t ⊎ (t ≡ here)) (IsAmong items (index + 1)) xs zs there back
      (grows-then (IsAmong items index) (λ t. t ≡ here) xs ys zs g h)
    where
      split : (k : ℕ) → k < index + 1 → (k < index) ⊎ (k ≡ index)
      split k below = grind (arith, below)

      there : (t : ℕ) → IsAmong items index t ⊎ (t ≡ here) → IsAmong items (index + 1) t
      there t (inl (k, below, e)) = (k, omega (arith, below), e)
      there t (inr e) = (index, omega arith, sym is ∙ sym e)

      back : (t : ℕ) → IsAmong items (index + 1) t → IsAmong items index t ⊎ (t ≡ here)
      back t (k, below, e) = elim (split k below) [
        | inl before ↦ inl (k, before, e)
        | inr same ↦ inr (sym e ∙ (ap (λ j. get_or items j 0) same ∙ sym is))
      ]

  pub among-all : (index : ℕ) → index ≡ length items → (xs ys : List ℕ) → Grows (IsAmong items index) xs ys → Grows (Contains items) xs ys
  among-all index e xs ys g = grows-as (IsAmong items index) (Contains items) xs ys there back g
    where
      there : (t : ℕ) → IsAmong items index t → Contains items t
      there t (k, below, is) = subst (Contains items) is (Contains-get_or items k 0 (omega (arith, below, e)))

      back : (t : ℕ) → Contains items t → IsAmong items index t
      back t (k, below, here) = (k, omega (arith, below, e), sym (get_or_default items k t 0 below) ∙ here)
