-- Ids in order, and their trees.
use Rattle.std.proofs.Common.{◌≡◌, ℕ, ◌<◌, Bool, true, false, List, [], ◌∷◌, ◌++◌, ◌⊎◌, inl, inr, length, Some, refl, sym, ap, ◌∙◌, subst, eqb-true, append_assoc, append-nil}
use Rattle.std.specs.Prelude.{◌||◌, nat_eq}
use Rattle.std.specs.List.{list_any}
use Rattle.std.proofs.lemmas.List.{map-append}
use Rattle.std.proofs.lemmas.Bool.{eq-eqb}
use Rattle.term_core_spec.specs.Term.{Term}
use Rattle.term_core_spec.specs.Same.{same_term}
use Rattle.term_core_spec.specs.Subterms.{arguments, IsIn, IsClosed}
use Rattle.term_core_spec.proofs.Same.{same_is, same_itself}
use Rattle.term_core_spec.proofs.Subterms.{in_one, in_front, in_either}
use Rattle.term_bank.specs.Nodes.{tree_at, AreDistinct}
use Rattle.term_bank.proofs.Growth.{held}
use Rattle.term_sorts.specs.Order.{terms_of, is_among, IsOrderAfter, IsOrder}

same_bools : (a b : Bool) → (a ≡ true → b ≡ true) → (b ≡ true → a ≡ true) → a ≡ b
same_bools true true f g = refl
same_bools true false f g = sym (f refl)
same_bools false true f g = g refl
same_bools false false f g = refl

-- no ids are in order
pub no_order : (trees : List Term) (ids : List ℕ) → ids ≡ [] → IsOrder trees ids
unfolding IsOrderAfter
no_order trees ids e = subst (IsOrder trees) (sym e) tt

-- each is below n
unfoldable pub AreWithin : ℕ → List ℕ → Type 0
AreWithin n [] = Unit {0}
AreWithin n (x ∷ rest) = (x < n) × AreWithin n rest

-- ---- an id is there exactly where its tree is

module _ (trees : List Term) (apart : AreDistinct trees) where
  pub same_ids : (x y : ℕ) → x < length trees → y < length trees → nat_eq x y ≡ same_term (tree_at trees x) (tree_at trees y)
  same_ids x y hx hy =
      same_bools (nat_eq x y) (same_term (tree_at trees x) (tree_at trees y))
      (λ e. subst (λ z. same_term (tree_at trees x) (tree_at trees z) ≡ true) (eqb-true x y e) (same_itself (tree_at trees x)))
      (λ e. eq-eqb x y (apart x y (tree_at trees y) (held trees x hx ∙ ap Some (same_is (tree_at trees x) (tree_at trees y) e)) (held trees y hy)))

  pub any_is : (x : ℕ) (ids : List ℕ) → x < length trees → AreWithin (length trees) ids → is_among ids x ≡ list_any (same_term (tree_at trees x)) (terms_of trees ids)
  unfolding AreWithin
  any_is x [] hx h = refl
  any_is x (y ∷ ids) hx h =
      ap (λ b. b || is_among ids x) (same_ids x y hx h.0) ∙ ap (λ b. same_term (tree_at trees x) (tree_at trees y) || b) (any_is x ids hx h.1)

-- ---- orders

pub within_of : (trees : List Term) (before ids : List ℕ) → IsOrderAfter trees before ids → AreWithin (length trees) ids
unfolding IsOrderAfter AreWithin
within_of trees before [] h = tt
within_of trees before (x ∷ rest) h = (h.0, within_of trees (before ++ x ∷ []) rest h.2)

pub push : (trees : List Term) (before ids : List ℕ) (id : ℕ) → IsOrderAfter trees before ids → id < length trees
    → ((a : Term) → IsIn a (arguments (tree_at trees id)) → IsIn a (terms_of trees (before ++ ids))) → IsOrderAfter trees before (ids ++ id ∷ [])
unfolding IsOrderAfter
push trees before [] id h less args = (less, (λ a at. subst (λ l. IsIn a (terms_of trees l)) (append-nil before) (args a at)), tt)
push trees before (x ∷ rest) id h less args =
    (h.0, h.1, push trees (before ++ x ∷ []) rest id h.2 less (λ a at. subst (λ l. IsIn a (terms_of trees l)) (sym (append_assoc before (x ∷ []) rest)) (args a at)))

closed_push : (trees : List Term) (before : List ℕ) (x : ℕ) → IsClosed (terms_of trees before)
    → ((a : Term) → IsIn a (arguments (tree_at trees x)) → IsIn a (terms_of trees before)) → IsClosed (terms_of trees (before ++ x ∷ []))
closed_push trees before x c args t at a here =
    subst (IsIn a) (sym split) (in_front a (terms_of trees before) (tree_at trees x ∷ []) (by (in_either t (terms_of trees before) (tree_at trees x ∷ []) (subst (IsIn t) split at))))
  where
    split : terms_of trees (before ++ x ∷ []) ≡ terms_of trees before ++ tree_at trees x ∷ []
    split = map-append (tree_at trees) before (x ∷ [])

    by : IsIn t (terms_of trees before) ⊎ IsIn t (tree_at trees x ∷ []) → IsIn a (terms_of trees before)
    by (inl h) = c t h a here
    by (inr h) = args a (subst (λ u. IsIn a (arguments u)) (in_one t (tree_at trees x) h) here)

closed_after : (trees : List Term) (before ids : List ℕ) → IsOrderAfter trees before ids → IsClosed (terms_of trees before) → IsClosed (terms_of trees (before ++ ids))
unfolding IsOrderAfter
closed_after trees before [] h c = subst (λ l. IsClosed (terms_of trees l)) (sym (append-nil before)) c
closed_after trees before (x ∷ rest) h c =
    subst (λ l. IsClosed (terms_of trees l)) (append_assoc before (x ∷ []) rest)
    (closed_after trees (before ++ x ∷ []) rest h.2 (closed_push trees before x c h.1))

pub closed_of : (trees : List Term) (ids : List ℕ) → IsOrder trees ids → IsClosed (terms_of trees ids)
closed_of trees ids h = closed_after trees [] ids h (λ u at. absurd (cc))
