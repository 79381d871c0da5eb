-- Where an argument of a term is, among ids of which each is after its arguments.
use Rattle.std.proofs.Common.{◌≡◌, ℕ, zero, suc, ◌+◌, ◌<◌, Bool, true, false, cond, List, [], ◌∷◌, ◌++◌, length, take, get_or, Some, None, refl, sym, ap, ◌∙◌, subst, arith, eqb-true, append_assoc, append-nil}
use Rattle.std.specs.Prelude.{◌||◌, nat_eq, nat_lt, unwrap_or, slice_get}
use Rattle.std.specs.List.{list_any}
use Rattle.std.proofs.lemmas.Bool.{lt-ltb}
use Rattle.std.proofs.lemmas.List.Recursion.{is_position_or_len}
use Rattle.std.specs.List.{position_or_len}
use Rattle.std.proofs.lemmas.Option.{get_or_from_slice_get, same_Some}
use Rattle.term_core_spec.specs.Term.{Term}
use Rattle.term_core_spec.specs.Same.{same_term}
use Rattle.term_core_spec.specs.Subterms.{arguments, IsIn}
use Rattle.term_core_spec.proofs.Same.{same_itself}
use Rattle.term_bank.specs.declared.node.TermNode.{TermNode}
use Rattle.term_bank.specs.Nodes.{IsNode, tree_at, build, AreDistinct}
use Rattle.term_bank.specs.Subterms.{arguments_of}
use Rattle.term_sorts.specs.Order.{terms_of, is_among, IsOrderAfter, IsOrder}
use Rattle.term_sorts.proofs.Walks.{arguments-build, arguments_within}
use Rattle.term_sorts.proofs.Orders.{AreWithin, any_is, within_of}
use Rattle.word_steps_rules.specs.declared.bit.Bit.{Bit}
use Rattle.word_steps_rules.specs.Bits.{index_among, row_in, IsRow, AreRows}
use Rattle.word_steps_rules.specs.Plans.{HaveRows}

unfoldable found : ℕ → List ℕ → ℕ
found a [] = 0
found a (x ∷ rest) = cond (nat_eq a x) 0 (1 + found a rest)

found_is : (a : ℕ) (ids : List ℕ) → found a ids ≡ position_or_len (nat_eq a) ids
unfolding found
found_is a ids = is_position_or_len (found a) (nat_eq a) refl (λ x xs. refl) ids

found_within : (a : ℕ) (ids : List ℕ) → is_among ids a ≡ true → found a ids < length ids
unfolding found
found_within a [] h = absurd (cc)
found_within a (x ∷ rest) h = by (nat_eq a x) h (found_within a rest)
  where
    by : (test : Bool) → (test || is_among rest a) ≡ true → (is_among rest a ≡ true → found a rest < length rest) → cond test 0 (1 + found a rest) < length (x ∷ rest)
    by true e later = omega arith
    by false e later = let less = later e in omega (arith, less)

index_is : (ids : List ℕ) (a : ℕ) → is_among ids a ≡ true → index_among ids a ≡ found a ids
index_is ids a h =
    ap (λ k. unwrap_or (cond (nat_lt k (length ids)) (Some k) None) 0) (sym (found_is a ids))
    ∙ ap (λ b. unwrap_or (cond b (Some (found a ids)) None) 0) (lt-ltb (found a ids) (length ids) (found_within a ids h))

found_before : (a : ℕ) (ids : List ℕ) (n : ℕ) → is_among (take n ids) a ≡ true → (found a ids < n) × (is_among ids a ≡ true)
unfolding found
found_before a [] zero h = absurd (cc)
found_before a [] (suc n) h = absurd (cc)
found_before a (x ∷ rest) zero h = absurd (cc)
found_before a (x ∷ rest) (suc n) h = by (nat_eq a x) h (found_before a rest n)
  where
    by : (test : Bool) → (test || is_among (take n rest) a) ≡ true → (is_among (take n rest) a ≡ true → (found a rest < n) × (is_among rest a ≡ true))
        → (cond test 0 (1 + found a rest) < suc n) × ((test || is_among rest a) ≡ true)
    by true e later = (omega arith, refl)
    by false e later = let h = later e in let less : found a rest < n = h.0 in (omega arith, h.1)

found_there : (a : ℕ) (ids : List ℕ) → is_among ids a ≡ true → slice_get ids (found a ids) ≡ Some a
unfolding found
found_there a [] h = absurd (cc)
found_there a (x ∷ rest) h = by (nat_eq a x) refl h (found_there a rest)
  where
    by : (test : Bool) → nat_eq a x ≡ test → (test || is_among rest a) ≡ true → (is_among rest a ≡ true → slice_get rest (found a rest) ≡ Some a)
        → slice_get (x ∷ rest) (cond test 0 (1 + found a rest)) ≡ Some a
    by true same e later = ap Some (sym (eqb-true a x same))
    by false same e later = let one : 1 + found a rest ≡ suc (found a rest) = omega arith in ap (slice_get (x ∷ rest)) one ∙ later e

-- an id that is there is at its index
pub index_there : (ids : List ℕ) (a : ℕ) → is_among ids a ≡ true → slice_get ids (index_among ids a) ≡ Some a
index_there ids a h = ap (slice_get ids) (index_is ids a h) ∙ found_there a ids h

pub index_below : (ids : List ℕ) (a : ℕ) → is_among ids a ≡ true → index_among ids a < length ids
index_below ids a h = subst (λ k. k < length ids) (sym (index_is ids a h)) (found_within a ids h)

-- ---- ids in order are of trees

within_at : (n : ℕ) (ids : List ℕ) (i id : ℕ) → AreWithin n ids → slice_get ids i ≡ Some id → id < n
unfolding AreWithin
within_at n [] i id h e = absurd (cc)
within_at n (x ∷ rest) zero id h e = subst (λ k. k < n) (same_Some x id e) h.0
within_at n (x ∷ rest) (suc i) id h e = within_at n rest i id h.1 e

pub order_within : (trees : List Term) (ids : List ℕ) (i id : ℕ) → IsOrder trees ids → slice_get ids i ≡ Some id → id < length trees
order_within trees ids i id order e = within_at (length trees) ids i id (within_of trees [] ids order) e

-- ---- the arguments of a term are before it

order_at : (trees : List Term) (before ids : List ℕ) (i id : ℕ) → IsOrderAfter trees before ids → slice_get ids i ≡ Some id
    → (a : Term) → IsIn a (arguments (tree_at trees id)) → IsIn a (terms_of trees (before ++ take i ids))
unfolding IsOrderAfter
order_at trees before [] i id h at a here = absurd (cc)
order_at trees before (x ∷ rest) zero id h at a here =
    subst (λ l. IsIn a (terms_of trees l)) (sym (append-nil before)) (h.1 a (subst (λ k. IsIn a (arguments (tree_at trees k))) (sym (same_Some x id at)) here))
order_at trees before (x ∷ rest) (suc i) id h at a here =
    subst (λ l. IsIn a (terms_of trees l)) (append_assoc before (x ∷ []) (take i rest)) (order_at trees (before ++ x ∷ []) rest i id h.2 at a here)

within_take : (n : ℕ) (ids : List ℕ) (i : ℕ) → AreWithin n ids → AreWithin n (take i ids)
unfolding AreWithin
within_take n [] zero h = tt
within_take n [] (suc i) h = tt
within_take n (x ∷ rest) zero h = tt
within_take n (x ∷ rest) (suc i) h = (h.0, within_take n rest i h.1)

module _ (trees : List Term) (apart : AreDistinct trees) (ids : List ℕ) (order : IsOrder trees ids) (rows : List (List Bit)) (are : AreRows trees ids rows) (id : ℕ)
    (at : slice_get ids (length rows) ≡ Some id) (node : TermNode) (before : IsNode id node) (here : tree_at trees id ≡ build trees node) (inside : id < length trees) where
  ids_within : AreWithin (length trees) ids
  ids_within = within_of trees [] ids order

  one_found : (a : ℕ) → a < id → IsIn (tree_at trees a) (arguments (tree_at trees id)) → (found a ids < length rows) × (is_among ids a ≡ true)
  one_found a less in_args =
      found_before a ids (length rows)
      (any_is trees apart a (take (length rows) ids) (omega (arith, less, inside)) (within_take (length trees) ids (length rows) ids_within)
      ∙ order_at trees [] ids (length rows) id order at (tree_at trees a) in_args)

  rows_found : (xs : List ℕ) → AreWithin id xs → ((a : Term) → IsIn a (terms_of trees xs) → IsIn a (arguments (tree_at trees id))) → HaveRows trees ids rows xs
  unfolding AreWithin
  rows_found [] w h = tt
  rows_found (a ∷ rest) w h =
      let t = tree_at trees a in
      let is = one_found a w.0 (h t (first (same_term t t) (list_any (same_term t) (terms_of trees rest)) (same_itself t))) in
      let index = index_is ids a is.1 in
      let k : found a ids < length rows = is.0 in
      let same : get_or ids (found a ids) 0 ≡ a = get_or_from_slice_get ids (found a ids) a 0 (found_there a ids is.1) in
      let row = subst (λ i. IsRow trees (tree_at trees i) (row_in rows (found a ids))) same (are.each (found a ids) k) in (
        subst (λ i. IsRow trees t (row_in rows i)) (sym index) row,
        rows_found rest w.1 (λ u e. h u (later (same_term u t) (list_any (same_term u) (terms_of trees rest)) e)),
      )
    where
      first : (p q : Bool) → p ≡ true → (p || q) ≡ true
      first true q e = refl
      first false q e = absurd (cc)

      later : (p q : Bool) → q ≡ true → (p || q) ≡ true
      later true q e = refl
      later false q e = e

  -- the arguments of the next term have rows
  pub next_has_rows : HaveRows trees ids rows (arguments_of node)
  next_has_rows = rows_found (arguments_of node) (arguments_within id node before) (λ t e. subst (IsIn t) (sym (ap arguments here ∙ arguments-build trees node)) e)
