-- Laws of the distinct subterms of a term: they have the term and, with each term, its arguments; each of them is in
-- every list that has both; and no two are the same.
use Rattle.std.proofs.Common.{◌≡◌, ℕ, ◌≤◌, Bool, true, false, cond, List, [], ◌∷◌, ◌++◌, ◌⊎◌, inl, inr, length, refl, sym, ap, ◌∙◌, subst}
use Rattle.std.specs.Prelude.{◌||◌}
use Rattle.std.specs.List.{list_any, IsDistinct, AllByRecursion}
use Rattle.std.specs.Cmp.{IsEquivalence}
use Rattle.std.proofs.lemmas.List.Folds.{list_any-append}
use Rattle.std.proofs.lemmas.Map.Made.{length-le_from_is_member}
use Rattle.term_core_spec.specs.Term.{Term, Leaf, Unary, Binary, Ternary, Quaternary, Octonary}
use Rattle.term_core_spec.specs.Same.{same_term}
use Rattle.term_core_spec.specs.Subterms.{with_term, with_subterms, subterms, subterm_count, arguments, IsIn, IsClosed}
use Rattle.term_core_spec.proofs.Same.{same_is, same_itself}

-- ---- the test of two terms

same-symmetric : (s t : Term) → same_term s t ≡ same_term t s
same-symmetric s t = both (same_term s t) (same_term t s) refl refl
  where
    swap : (s t : Term) → same_term s t ≡ true → same_term t s ≡ true
    swap s t e = subst (λ u. same_term u s ≡ true) (same_is s t e) (same_itself s)

    both : (p q : Bool) → same_term s t ≡ p → same_term t s ≡ q → p ≡ q
    both true true e f = refl
    both false false e f = refl
    both true false e f = sym (swap s t e) ∙ f
    both false true e f = sym e ∙ swap t s f

pub same-equivalence : IsEquivalence same_term
same-equivalence = record {
  refl = same_itself;
  symm = same-symmetric;
  congr = λ s t u e. ap (λ x. same_term x u) (same_is s t e);
}

-- ---- one term more

or_left : (p q : Bool) → p ≡ true → (p || q) ≡ true
or_left true q e = refl
or_left false q e = absurd (cc)

or_right : (p q : Bool) → q ≡ true → (p || q) ≡ true
or_right true q e = refl
or_right false q e = e

or_either : (p q : Bool) → (p || q) ≡ true → (p ≡ true) ⊎ (q ≡ true)
or_either true q e = inl refl
or_either false q e = inr e

pub in_one : (u t : Term) → IsIn u (t ∷ []) → u ≡ t
in_one u t e = by (same_term u t) refl e
  where
    by : (test : Bool) → same_term u t ≡ test → (test || false) ≡ true → u ≡ t
    by true same h = same_is u t same
    by false same h = absurd (cc)

pub in_itself : (t : Term) → IsIn t (t ∷ [])
in_itself t = or_left (same_term t t) false (same_itself t)

pub in_front : (u : Term) (xs ys : List Term) → IsIn u xs → IsIn u (xs ++ ys)
in_front u xs ys h = list_any-append (same_term u) xs ys ∙ or_left (list_any (same_term u) xs) (list_any (same_term u) ys) h

in_back : (u : Term) (xs ys : List Term) → IsIn u ys → IsIn u (xs ++ ys)
in_back u xs ys h = list_any-append (same_term u) xs ys ∙ or_right (list_any (same_term u) xs) (list_any (same_term u) ys) h

pub in_either : (u : Term) (xs ys : List Term) → IsIn u (xs ++ ys) → IsIn u xs ⊎ IsIn u ys
in_either u xs ys h = or_either (list_any (same_term u) xs) (list_any (same_term u) ys) (sym (list_any-append (same_term u) xs ys) ∙ h)

with_term-more : (t u : Term) (xs : List Term) → IsIn u xs → IsIn u (with_term t xs)
with_term-more t u xs h = by (list_any (same_term t) xs)
  where
    by : (test : Bool) → IsIn u (cond test xs (xs ++ t ∷ []))
    by true = h
    by false = in_front u xs (t ∷ []) h

with_term-there : (t : Term) (xs : List Term) → IsIn t (with_term t xs)
with_term-there t xs = by (list_any (same_term t) xs) refl
  where
    by : (test : Bool) → list_any (same_term t) xs ≡ test → IsIn t (cond test xs (xs ++ t ∷ []))
    by true e = e
    by false e = in_back t xs (t ∷ []) (in_itself t)

with_term-either : (t u : Term) (xs : List Term) → IsIn u (with_term t xs) → IsIn u xs ⊎ (u ≡ t)
with_term-either t u xs h = by (list_any (same_term t) xs) h
  where
    last : IsIn u xs ⊎ IsIn u (t ∷ []) → IsIn u xs ⊎ (u ≡ t)
    last (inl h) = inl h
    last (inr h) = inr (in_one u t h)

    by : (test : Bool) → IsIn u (cond test xs (xs ++ t ∷ [])) → IsIn u xs ⊎ (u ≡ t)
    by true h = inl h
    by false h = last (in_either u xs (t ∷ []) h)

-- ---- the term and its arguments are there

pub more : (t u : Term) (xs : List Term) → IsIn u xs → IsIn u (with_subterms t xs)
unfolding with_subterms
more (Leaf leaf) u xs h = with_term-more (Leaf leaf) u xs h
more (Unary o a) u xs h = with_term-more (Unary o a) u _ (more a u xs h)
more (Binary o a b) u xs h = with_term-more (Binary o a b) u _ (more b u _ (more a u xs h))
more (Ternary o a b c) u xs h = with_term-more (Ternary o a b c) u _ (more c u _ (more b u _ (more a u xs h)))
more (Quaternary o a b c d) u xs h = with_term-more (Quaternary o a b c d) u _ (more d u _ (more c u _ (more b u _ (more a u xs h))))
more (Octonary a b c d e f g i) u xs h =
    with_term-more (Octonary a b c d e f g i) u _
    (more i u _ (more g u _ (more f u _ (more e u _ (more d u _ (more c u _ (more b u _ (more a u xs h))))))))

pub there : (t : Term) (xs : List Term) → IsIn t (with_subterms t xs)
unfolding with_subterms
there (Leaf leaf) xs = with_term-there (Leaf leaf) xs
there (Unary o a) xs = with_term-there (Unary o a) _
there (Binary o a b) xs = with_term-there (Binary o a b) _
there (Ternary o a b c) xs = with_term-there (Ternary o a b c) _
there (Quaternary o a b c d) xs = with_term-there (Quaternary o a b c d) _
there (Octonary a b c d e f g i) xs = with_term-there (Octonary a b c d e f g i) _

-- each of some terms is there
unfoldable pub AllIn : List Term → List Term → Type 0
AllIn [] xs = Unit {0}
AllIn (t ∷ rest) xs = IsIn t xs × AllIn rest xs

all_in : (ts xs : List Term) → AllIn ts xs → (a : Term) → IsIn a ts → IsIn a xs
unfolding AllIn
all_in [] xs h a at = absurd (cc)
all_in (t ∷ rest) xs h a at = by (same_term a t) refl at (all_in rest xs h.1 a)
  where
    by : (test : Bool) → same_term a t ≡ test → (test || list_any (same_term a) rest) ≡ true → (IsIn a rest → IsIn a xs) → IsIn a xs
    by true same e later = subst (λ u. IsIn u xs) (sym (same_is a t same)) h.0
    by false same e later = later e

all_from : (ts xs : List Term) → ((a : Term) → IsIn a ts → IsIn a xs) → AllIn ts xs
unfolding AllIn
all_from [] xs f = tt
all_from (t ∷ rest) xs f = (
  f t (or_left (same_term t t) (list_any (same_term t) rest) (same_itself t)),
  all_from rest xs (λ a e. f a (or_right (same_term a t) (list_any (same_term a) rest) e)),
)

closed_with : (t : Term) (xs : List Term) → IsClosed xs → AllIn (arguments t) xs → IsClosed (with_term t xs)
closed_with t xs closed all u at a here = by (with_term-either t u xs at)
  where
    by : IsIn u xs ⊎ (u ≡ t) → IsIn a (with_term t xs)
    by (inl h) = with_term-more t a xs (closed u h a here)
    by (inr e) = with_term-more t a xs (all_in (arguments t) xs all a (subst (λ v. IsIn a (arguments v)) e here))

pub closed : (t : Term) (xs : List Term) → IsClosed xs → IsClosed (with_subterms t xs)
unfolding with_subterms arguments AllIn
closed (Leaf leaf) xs h = closed_with (Leaf leaf) xs h tt
closed (Unary o a) xs h = closed_with (Unary o a) _ (closed a xs h) (there a xs, tt)
closed (Binary o a b) xs h =
    closed_with (Binary o a b) _ (closed b _ (closed a xs h)) (more b a _ (there a xs), (there b _, tt))
closed (Ternary o a b c) xs h =
    closed_with (Ternary o a b c) _ (closed c _ (closed b _ (closed a xs h)))
    (more c a _ (more b a _ (there a xs)), (more c b _ (there b _), (there c _, tt)))
closed (Quaternary o a b c d) xs h =
    closed_with (Quaternary o a b c d) _ (closed d _ (closed c _ (closed b _ (closed a xs h))))
    (more d a _ (more c a _ (more b a _ (there a xs))), (more d b _ (more c b _ (there b _)), (more d c _ (there c _), (there d _, tt))))
closed (Octonary a b c d e f g i) xs h =
    closed_with (Octonary a b c d e f g i) _
    (closed i _ (closed g _ (closed f _ (closed e _ (closed d _ (closed c _ (closed b _ (closed a xs h)))))))) (
      more i a _ (more g a _ (more f a _ (more e a _ (more d a _ (more c a _ (more b a _ (there a xs))))))),
      (
        more i b _ (more g b _ (more f b _ (more e b _ (more d b _ (more c b _ (there b _)))))),
        (
          more i c _ (more g c _ (more f c _ (more e c _ (more d c _ (there c _))))),
          (
            more i d _ (more g d _ (more f d _ (more e d _ (there d _)))),
            (more i e _ (more g e _ (more f e _ (there e _))), (more i f _ (more g f _ (there f _)), (more i g _ (there g _), (there i _, tt)))),
          ),
        ),
      ),
    )

-- ---- each of them is in every list that is closed

module _ (ys : List Term) (closed_ys : IsClosed ys) where
  -- all of some terms are in ys
  abbrev Within : List Term → Type 0
  Within xs = (u : Term) → IsIn u xs → IsIn u ys

  within_with : (t : Term) (xs : List Term) → Within xs → IsIn t ys → Within (with_term t xs)
  within_with t xs h at u here = by (with_term-either t u xs here)
    where
      by : IsIn u xs ⊎ (u ≡ t) → IsIn u ys
      by (inl e) = h u e
      by (inr e) = subst (λ v. IsIn v ys) (sym e) at

  parts : (t : Term) → IsIn t ys → AllIn (arguments t) ys
  parts t at = all_from (arguments t) ys (closed_ys t at)

  pub within : (t : Term) (xs : List Term) → Within xs → IsIn t ys → Within (with_subterms t xs)
  unfolding with_subterms arguments AllIn
  within (Leaf leaf) xs h at = within_with (Leaf leaf) xs h at
  within (Unary o a) xs h at = let p = parts (Unary o a) at in within_with (Unary o a) _ (within a xs h p.0) at
  within (Binary o a b) xs h at =
      let p = parts (Binary o a b) at in
      within_with (Binary o a b) _ (within b _ (within a xs h p.0) p.1.0) at
  within (Ternary o a b c) xs h at =
      let p = parts (Ternary o a b c) at in
      within_with (Ternary o a b c) _ (within c _ (within b _ (within a xs h p.0) p.1.0) p.1.1.0) at
  within (Quaternary o a b c d) xs h at =
      let p = parts (Quaternary o a b c d) at in
      within_with (Quaternary o a b c d) _ (within d _ (within c _ (within b _ (within a xs h p.0) p.1.0) p.1.1.0) p.1.1.1.0) at
  within (Octonary a b c d e f g i) xs h at =
      let p = parts (Octonary a b c d e f g i) at in
      let q = p.1.1.1.1 in
      within_with (Octonary a b c d e f g i) _
      (within i _
      (within g _
      (within f _ (within e _ (within d _ (within c _ (within b _ (within a xs h p.0) p.1.0) p.1.1.0) p.1.1.1.0) q.0) q.1.0)
      q.1.1.0)
      q.1.1.1.0)
      at

-- ---- no two are the same

distinct_push : (t : Term) (xs : List Term) → list_any (same_term t) xs ≡ false → IsDistinct same_term xs → IsDistinct same_term (xs ++ t ∷ [])
unfolding IsDistinct
distinct_push t [] none h = (tt, tt)
distinct_push t (x ∷ xs) none h =
    let parts = neither (same_term t x) (list_any (same_term t) xs) none in
    (others xs h.0 (same-symmetric x t ∙ parts.0), distinct_push t xs parts.1 h.1)
  where
    neither : (p q : Bool) → (p || q) ≡ false → (p ≡ false) × (q ≡ false)
    neither false q e = (refl, e)
    neither true q e = absurd (cc)

    others : (ys : List Term) → AllByRecursion (λ y. same_term x y ≡ false) ys → same_term x t ≡ false → AllByRecursion (λ y. same_term x y ≡ false) (ys ++ t ∷ [])
    others [] all last = (last, tt)
    others (y ∷ ys) all last = (all.0, others ys all.1 last)

with_term-distinct : (t : Term) (xs : List Term) → IsDistinct same_term xs → IsDistinct same_term (with_term t xs)
with_term-distinct t xs h = by (list_any (same_term t) xs) refl
  where
    by : (test : Bool) → list_any (same_term t) xs ≡ test → IsDistinct same_term (cond test xs (xs ++ t ∷ []))
    by true e = h
    by false e = distinct_push t xs e h

pub distinct : (t : Term) (xs : List Term) → IsDistinct same_term xs → IsDistinct same_term (with_subterms t xs)
unfolding with_subterms
distinct (Leaf leaf) xs h = with_term-distinct (Leaf leaf) xs h
distinct (Unary o a) xs h = with_term-distinct (Unary o a) _ (distinct a xs h)
distinct (Binary o a b) xs h = with_term-distinct (Binary o a b) _ (distinct b _ (distinct a xs h))
distinct (Ternary o a b c) xs h = with_term-distinct (Ternary o a b c) _ (distinct c _ (distinct b _ (distinct a xs h)))
distinct (Quaternary o a b c d) xs h = with_term-distinct (Quaternary o a b c d) _ (distinct d _ (distinct c _ (distinct b _ (distinct a xs h))))
distinct (Octonary a b c d e f g i) xs h =
    with_term-distinct (Octonary a b c d e f g i) _
    (distinct i _ (distinct g _ (distinct f _ (distinct e _ (distinct d _ (distinct c _ (distinct b _ (distinct a xs h))))))))

-- ---- the whole

pub subterms-closed : (t : Term) → IsClosed (subterms t)
subterms-closed t = closed t [] (λ u at. absurd (cc))

-- a closed list that has the term is at least as long
pub count_le : (t : Term) (ys : List Term) → IsClosed ys → IsIn t ys → subterm_count t ≤ length ys
unfolding IsDistinct
count_le t ys closed_ys at =
    length-le_from_is_member same-equivalence (subterms t) ys (distinct t [] tt) (within ys closed_ys t [] (λ u here. absurd (cc)) at)

-- distinct subterms are at most as many
pub le_count : (t : Term) (ys : List Term) → IsDistinct same_term ys → ((u : Term) → IsIn u ys → IsIn u (subterms t)) → length ys ≤ subterm_count t
le_count t ys apart h = length-le_from_is_member same-equivalence ys (subterms t) apart h
