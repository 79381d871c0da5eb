-- How lists grow by items that have a property.
use Rattle.std.proofs.Common.{◌≡◌, ◌⊎◌, ◌+◌, ◌<◌, ◌≤◌, ◌%◌, ℕ, Bool, true, false, cond, List, [], ◌∷◌, ◌++◌, length, get_or, refl, sym, ◌∙◌, ap, subst, inl, inr, append_assoc, arith, eqb-true, eq-eqb}
use Rattle.std.specs.Prelude.{Some, None, Contains, nat_eq, ◌==◌}
use Rattle.std.specs.List.{list_any}
use Rattle.std.proofs.lemmas.List.{append-nil, get_or_append_left}
use Rattle.std.proofs.lemmas.List.Elements.{Contains-append_left, Contains-append_right, Contains-append_cases, Contains-push}
use Rattle.indexmap.specs.IndexSet.{insert_key}
use Rattle.indexmap.proofs.CallerLemmas.{Contains-list_any}
use Rattle.elf_read_spec.specs.Image.{Image}
use Rattle.code_reach_spec.specs.Code.{InRange, aligned, Flow, nexts_of, flow_at}
use Rattle.code_reach_spec.specs.Faults.{targets_of}
use Rattle.code_reach_spec.specs.FaultAt.{in_range}
use Rattle.code_reach.specs.Growth.{Grows, FromFirst, IsInside, GoesTo, HasTarget}

pub none_contained : (t : ℕ) → Contains [] t → ⊥
none_contained t (k, below, here) = omega (arith, below)

pub only_contained : (x t : ℕ) → Contains (x ∷ []) t → t ≡ x
only_contained x t (k, below, here) = first k below here
  where
    first : (k : ℕ) → k < length (x ∷ []) → get_or (x ∷ []) k t ≡ t → t ≡ x
    first k below here = let zero : k ≡ 0 = omega (arith, below) in sym (subst (λ j. get_or (x ∷ []) j t ≡ t) zero here)

pub contained : (x : ℕ) → Contains (x ∷ []) x
contained x = (0, omega arith, refl)

-- nothing is new
pub grows-kept : (P : ℕ → Type 0) (xs : List ℕ) → ((t : ℕ) → P t → Contains xs t) → Grows P xs xs
grows-kept P xs all = record { more = []; grown = sym (append-nil xs); all = all; only = λ t h. absurd (none_contained t h) }

pub grows-none : (P : ℕ → Type 0) (xs : List ℕ) → ((t : ℕ) → P t → ⊥) → Grows P xs xs
grows-none P xs never = grows-kept P xs (λ t p. absurd (never t p))

pub grows-push : (xs : List ℕ) (x : ℕ) → Grows (λ t. t ≡ x) xs (xs ++ x ∷ [])
grows-push xs x = record {
  more = x ∷ [];
  grown = refl;
  all = λ t e. subst (λ z. Contains (xs ++ x ∷ []) z) (sym e) (Contains-push xs x);
  only = λ t h. only_contained x t h;
}

pub grows-insert : (xs : List ℕ) (x : ℕ) → Grows (λ t. t ≡ x) xs (insert_key nat_eq xs x)
grows-insert xs x = at (list_any (nat_eq x) xs) refl
  where
    at : (b : Bool) → list_any (nat_eq x) xs ≡ b → Grows (λ t. t ≡ x) xs (cond b xs (xs ++ x ∷ []))
    at true e = grows-kept (λ t. t ≡ x) xs (λ t h. subst (λ z. Contains xs z) (sym h) (Contains-list_any nat_eq (λ a b s. eqb-true a b s) xs x e))
    at false e = grows-push xs x

pub grows-as : (P Q : ℕ → Type 0) (xs ys : List ℕ) → ((t : ℕ) → P t → Q t) → ((t : ℕ) → Q t → P t) → Grows P xs ys → Grows Q xs ys
grows-as P Q xs ys there back g = record { more = g.more; grown = g.grown; all = λ t q. g.all t (back t q); only = λ t h. there t (g.only t h) }

pub grows-then : (P Q : ℕ → Type 0) (xs ys zs : List ℕ) → Grows P xs ys → Grows Q ys zs → Grows (λ t. P t ⊎ Q t) xs zs
grows-then P Q xs ys zs g h = record {
  more = g.more ++ h.more;
  grown = h.grown ∙ (ap (λ l. l ++ h.more) g.grown ∙ append_assoc xs g.more h.more);
  all = λ t either. elim either [ inl p ↦ subst (λ l. Contains l t) (sym h.grown) (Contains-append_left ys h.more t (g.all t p)) | inr q ↦ h.all t q ];
  only = λ t among. elim (Contains-append_cases g.more h.more t among) [ inl first ↦ inl (g.only t first) | inr second ↦ inr (h.only t second) ];
}

-- ---- what the first so many of some items are related to

module _ (P : ℕ → ℕ → Type 0) (items : List ℕ) where
  pub first-none : (xs : List ℕ) → Grows (FromFirst P items 0) xs xs
  first-none xs = grows-none (FromFirst P items 0) xs (λ t f. omega (arith, f.below))

  pub first-more : (index here : ℕ) → here ≡ get_or items index 0 → (xs ys zs : List ℕ) → Grows (FromFirst P items index) xs ys → Grows (P here) ys zs
      → Grows (FromFirst P items (index + 1)) xs zs
  first-more index here is xs ys zs g h =
      grows-as (λ t. FromFirst P items index t ⊎ P here t) (FromFirst P items (index + 1)) xs zs
      (λ t either. elim either [
        | inl f ↦ record { index = f.index; below = omega (arith, f.below); there = f.there }
        | inr p ↦ record { index = index; below = omega arith; there = subst (λ a. P a t) is p }
      ])
      (λ t f. elim (split f.index f.below) [
        | inl before ↦ inl (record { index = f.index; below = before; there = f.there })
        | inr e ↦ inr (subst (λ a. P a t) (ap (λ i. get_or items i 0) e ∙ sym is) f.there)
      ])
      (grows-then (FromFirst P items index) (P here) xs ys zs g h)
    where
      split : (j : ℕ) → j < index + 1 → (j < index) ⊎ (j ≡ index)
      split j below = grind (arith, below)

  -- more items come after them
  pub first-of-more : (count : ℕ) (more xs ys : List ℕ) → count ≤ length items → Grows (FromFirst P items count) xs ys → Grows (FromFirst P (items ++ more) count) xs ys
  first-of-more count more xs ys few g =
      grows-as (FromFirst P items count) (FromFirst P (items ++ more) count) xs ys
      (λ t f. record { index = f.index; below = f.below; there = subst (λ a. P a t) (sym (same f.index (omega (arith, f.below, few)))) f.there })
      (λ t f. record { index = f.index; below = f.below; there = subst (λ a. P a t) (same f.index (omega (arith, f.below, few))) f.there }) g
    where
      same : (j : ℕ) → j < length items → get_or (items ++ more) j 0 ≡ get_or items j 0
      same j below = get_or_append_left items more 0 j below

-- ---- tests

pub in-range : (entry size x : ℕ) → in_range entry size x ≡ true → InRange entry size x
in-range entry size x e = record { from = grind (arith, e); below = grind (arith, e) }

pub range-in : (entry size x : ℕ) → InRange entry size x → in_range entry size x ≡ true
range-in entry size x r = grind (arith, r.from, r.below)

pub out-range : (entry size x : ℕ) → in_range entry size x ≡ false → InRange entry size x → ⊥
out-range entry size x e r = let yes = range-in entry size x r in cc

pub aligned-yes : (x : ℕ) → x % 4 ≡ 0 → aligned x ≡ x ∷ []
aligned-yes x e = ap (λ b. cond b (x ∷ []) []) (eq-eqb (x % 4) 0 e)

pub aligned-no : (x : ℕ) → (x % 4 ≡ 0 → ⊥) → aligned x ≡ []
aligned-no x never = at (x % 4 == 0) refl
  where
    at : (b : Bool) → (x % 4 == 0) ≡ b → cond b (x ∷ []) [] ≡ []
    at true e = absurd (never (eqb-true (x % 4) 0 e))
    at false e = refl

-- ---- what is among some addresses, and inside the range

pub inside-one : (entry size x : ℕ) → InRange entry size x → (xs ys : List ℕ) → Grows (λ t. t ≡ x) xs ys → Grows (IsInside entry size (x ∷ [])) xs ys
inside-one entry size x within xs ys g =
    grows-as (λ t. t ≡ x) (IsInside entry size (x ∷ [])) xs ys
    (λ t e. record { among = subst (λ z. Contains (x ∷ []) z) (sym e) (contained x); inside = subst (λ z. InRange entry size z) (sym e) within })
    (λ t i. only_contained x t i.among) g

pub inside-outside : (entry size x : ℕ) → (InRange entry size x → ⊥) → (xs : List ℕ) → Grows (IsInside entry size (x ∷ [])) xs xs
inside-outside entry size x out xs =
    grows-none (IsInside entry size (x ∷ [])) xs (λ t i. out (subst (λ z. InRange entry size z) (only_contained x t i.among) i.inside))

pub inside-empty : (entry size : ℕ) (xs : List ℕ) → Grows (IsInside entry size []) xs xs
inside-empty entry size xs = grows-none (IsInside entry size []) xs (λ t i. none_contained t i.among)

pub inside-append : (entry size : ℕ) (ts us xs ys zs : List ℕ) → Grows (IsInside entry size ts) xs ys → Grows (IsInside entry size us) ys zs
    → Grows (IsInside entry size (ts ++ us)) xs zs
inside-append entry size ts us xs ys zs g h =
    grows-as (λ t. IsInside entry size ts t ⊎ IsInside entry size us t) (IsInside entry size (ts ++ us)) xs zs
    (λ t either. elim either [
      | inl i ↦ record { among = Contains-append_left ts us t i.among; inside = i.inside }
      | inr i ↦ record { among = Contains-append_right ts us t i.among; inside = i.inside }
    ])
    (λ t i. elim (Contains-append_cases ts us t i.among) [
      | inl first ↦ inl (record { among = first; inside = i.inside })
      | inr second ↦ inr (record { among = second; inside = i.inside })
    ])
    (grows-then (IsInside entry size ts) (IsInside entry size us) xs ys zs g h)

-- ---- where control goes

pub leads-some : (image : Image) (entry size address : ℕ) (flow : Flow) → flow_at image entry address ≡ Some flow → (xs ys : List ℕ)
    → Grows (IsInside entry size (nexts_of address flow)) xs ys → Grows (GoesTo image entry size address) xs ys
leads-some image entry size address flow is xs ys g =
    grows-as (IsInside entry size (nexts_of address flow)) (GoesTo image entry size address) xs ys
    (λ t i. record { flow = flow; flow_is = is; next = i })
    (λ t l. let same : l.flow ≡ flow = cc in subst (λ f. IsInside entry size (nexts_of address f) t) same l.next) g

pub leads-none : (image : Image) (entry size address : ℕ) → flow_at image entry address ≡ None → (xs : List ℕ) → Grows (GoesTo image entry size address) xs xs
leads-none image entry size address is xs = grows-none (GoesTo image entry size address) xs (λ t l. let flow_is = l.flow_is in cc)

-- ---- the targets of an instruction

pub targets-some : (image : Image) (entry address : ℕ) (flow : Flow) → flow_at image entry address ≡ Some flow → (xs ys : List ℕ)
    → Grows (Contains (targets_of flow)) xs ys → Grows (HasTarget image entry address) xs ys
targets-some image entry address flow is xs ys g =
    grows-as (Contains (targets_of flow)) (HasTarget image entry address) xs ys
    (λ t among. record { flow = flow; flow_is = is; among = among })
    (λ t h. let same : h.flow ≡ flow = cc in subst (λ f. Contains (targets_of f) t) same h.among) g

pub targets-none : (image : Image) (entry address : ℕ) → flow_at image entry address ≡ None → (xs : List ℕ) → Grows (HasTarget image entry address) xs xs
targets-none image entry address is xs = grows-none (HasTarget image entry address) xs (λ t h. let flow_is = h.flow_is in cc)

pub target-one : (target : ℕ) (xs ys : List ℕ) → Grows (λ t. t ≡ target) xs ys → Grows (Contains (target ∷ [])) xs ys
target-one target xs ys g =
    grows-as (λ t. t ≡ target) (Contains (target ∷ [])) xs ys
    (λ t e. subst (λ z. Contains (target ∷ []) z) (sym e) (contained target))
    (λ t among. only_contained target t among) g

-- one target more
pub target-more : (ts : List ℕ) (target : ℕ) (xs ys zs : List ℕ) → Grows (Contains ts) xs ys → Grows (λ t. t ≡ target) ys zs → Grows (Contains (ts ++ target ∷ [])) xs zs
target-more ts target xs ys zs g h =
    grows-as (λ t. Contains ts t ⊎ (t ≡ target)) (Contains (ts ++ target ∷ [])) xs zs
    (λ t either. elim either [
      | inl first ↦ Contains-append_left ts (target ∷ []) t first
      | inr last ↦ subst (λ z. Contains (ts ++ target ∷ []) z) (sym last) (Contains-push ts target)
    ])
    (λ t among. elim (Contains-append_cases ts (target ∷ []) t among) [ inl first ↦ inl first | inr last ↦ inr (only_contained target t last) ])
    (grows-then (Contains ts) (λ t. t ≡ target) xs ys zs g h)

pub target-none : (xs : List ℕ) → Grows (Contains []) xs xs
target-none xs = grows-none (Contains []) xs (λ t among. none_contained t among)
