-- What an `IndexSet` keeps where a key is inserted: the key itself, or what it stands for.
use Rattle.std.proofs.Common.{◌≡◌, ◌⊎◌, ℕ, zero, suc, Bool, true, false, cond, List, [], ◌∷◌, ◌++◌, map, Some, refl, sym, ◌∙◌, ap, subst, inl, inr, append-nil}
use Rattle.std.specs.Prelude.{slice_get, Vec, option_map}
use Rattle.std.specs.Global.{Global}
use Rattle.std.specs.List.{IsDistinct, AllByRecursion, list_any}
use Rattle.std.specs.Str.{bytes_eq}
use Rattle.std.proofs.lemmas.List.{map-append, map-id}
use Rattle.std.proofs.lemmas.Option.{same_Some, slice_get-map}
use Rattle.std.proofs.lemmas.Slice.Eq.{bytes_eq-Decides}
use Rattle.visit_walk_spec.specs.DepthFirst.{AreDistinct}
use Rattle.visit_walk.specs.Tables.{Holds, Extends}

-- what the keys stand for: nothing is lost, what was inserted is at the index, and nothing is there twice
pub record IsInterned {Y : Type 0} (old new : List Y) (y : Y) (index : ℕ) : Type 0 where
  pub grown : (new ≡ old) ⊎ (new ≡ old ++ y ∷ [])
  pub holds : Holds new index y
  pub distinct : AreDistinct new

pub interned-extends : {Y : Type 0} (old new : List Y) (y : Y) (index : ℕ) → IsInterned old new y index → Extends old new
interned-extends old new y index i = elim i.grown [ inl e ↦ ([], e ∙ sym (append-nil old)) | inr e ↦ (y ∷ [], e) ]

module _ {X Y : Type 0} (eq : X → X → Bool) (f : X → Y) (same : (a b : X) → eq a b ≡ true → f a ≡ f b) (tell : (a b : X) → f a ≡ f b → eq a b ≡ true) where
  apart : (k : X) (ks : List X) → AllByRecursion (λ y. eq k y ≡ false) ks → (j : ℕ) → slice_get (map f ks) j ≡ Some (f k) → ⊥
  apart k [] h j e = cc
  apart k (x ∷ ks) h zero e =
      let found = tell k x (sym (same_Some (f x) (f k) e)) in
      let none = h.0 in
      cc
  apart k (x ∷ ks) h (suc j) e = apart k ks h.1 j e

  distinct_image : (ks : List X) → IsDistinct eq ks → AreDistinct (map f ks)
  unfolding IsDistinct
  distinct_image [] h i j y a b = absurd (cc)
  distinct_image (k ∷ ks) h zero zero y a b = refl
  distinct_image (k ∷ ks) h zero (suc j) y a b = absurd (apart k ks h.0 j (b ∙ sym a))
  distinct_image (k ∷ ks) h (suc i) zero y a b = absurd (apart k ks h.0 i (a ∙ sym b))
  distinct_image (k ∷ ks) h (suc i) (suc j) y a b = ap suc (distinct_image ks h.1 i j y a b)

  pub interned : (ks new : List X) (k stored : X) (index : ℕ) → new ≡ (cond (list_any (eq k) ks) ks (ks ++ k ∷ [])) → slice_get new index ≡ Some stored → eq k stored ≡ true
      → IsDistinct eq new → IsInterned (map f ks) (map f new) (f k) index
  interned ks new k stored index grown holds is distinct = record {
    grown = grows (list_any (eq k) ks) grown;
    holds = slice_get-map f new index ∙ (ap (λ o. option_map f o) holds ∙ ap Some (sym (same k stored is)));
    distinct = distinct_image new distinct;
  }
    where
      grows : (b : Bool) → new ≡ cond b ks (ks ++ k ∷ []) → (map f new ≡ map f ks) ⊎ (map f new ≡ map f ks ++ f k ∷ [])
      grows true e = inl (ap (map f) e)
      grows false e = inr (ap (map f) e ∙ map-append f ks (k ∷ []))

-- ---- vectors of numbers

pub same_items : (a b : Vec ℕ Global) → bytes_eq a.items b.items ≡ true → a.items ≡ b.items
same_items a b e = (bytes_eq-Decides a.items b.items).0 e

pub tell_items : (a b : Vec ℕ Global) → a.items ≡ b.items → bytes_eq a.items b.items ≡ true
tell_items a b e = (bytes_eq-Decides a.items b.items).1 e

-- ---- keys themselves

pub interned_keys : {X : Type 0} (eq : X → X → Bool) → ((a b : X) → eq a b ≡ true → a ≡ b) → ((a : X) → eq a a ≡ true) → (ks new : List X) (k stored : X) (index : ℕ)
    → new ≡ (cond (list_any (eq k) ks) ks (ks ++ k ∷ [])) → slice_get new index ≡ Some stored → eq k stored ≡ true → IsDistinct eq new → IsInterned ks new k index
interned_keys {X} eq same itself ks new k stored index grown holds is distinct =
    subst (λ l. IsInterned l new k index) (map-id ks)
    (subst (λ l. IsInterned (map (λ (x : X). x) ks) l k index) (map-id new)
    (interned eq (λ (x : X). x) same (λ a b e. subst (λ z. eq a z ≡ true) e (itself a)) ks new k stored index grown holds is distinct))
