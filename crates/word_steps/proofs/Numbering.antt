-- The numbers of the subterms of a goal.
use Rattle.std.proofs.Common.{◌≡◌, ℕ, zero, suc, ◌+◌, ◌<◌, Bool, true, false, cond, List, [], ◌∷◌, ◌++◌, length, map, take, Option, Some, None, refl, sym, ap, ◌∙◌, subst, eqb-true, arith, append_assoc, append-nil, length-append}
use Rattle.std.specs.Prelude.{◌||◌, nat_eq, nat_lt, unwrap_or, All, slice_get}
use Rattle.std.specs.List.{list_any, position_or_len}
use Rattle.std.proofs.lemmas.Bool.{lt-ltb}
use Rattle.std.proofs.lemmas.List.Recursion.{is_position_or_len}
use Rattle.std.proofs.lemmas.List.Elements.{All-push, All-same, All-nil}
use Rattle.std.proofs.lemmas.List.{map-append, length-map}
use Rattle.std.proofs.lemmas.Option.{get_or_from_slice_get, slice_get_within, same_Some}
use Rattle.term_core_spec.specs.declared.Atom.TheVariants as atom
use Rattle.term_core_spec.specs.declared.Sort.{Sort}
use Rattle.term_core_spec.specs.Term as tree
use Rattle.term_core_spec.specs.Term.{Term}
use Rattle.term_core_spec.specs.Sort.{sort_of}
use Rattle.term_core_spec.specs.Same.{same_term}
use Rattle.term_core_spec.specs.Subterms.{arguments, subterms, IsIn}
use Rattle.term_core_spec.proofs.Same.{same_itself}
use Rattle.term_bank.specs.declared.node.TermNode.{TermNode}
use Rattle.term_bank.specs.declared.node.TermNode.TheVariants.{Leaf, Unary, Binary, Ternary, Quaternary, Octonary}
use Rattle.term_bank.specs.Nodes.{IsNode, tree_at, build, Holds, AreDistinct}
use Rattle.term_bank.specs.Subterms.{arguments_of}
use Rattle.term_sorts.specs.Order.{terms_of, is_among, IsOrderAfter, IsOrder}
use Rattle.term_sorts.specs.Sorts.{sort_at, sort_of_node}
use Rattle.term_sorts.proofs.Walks.{arguments-build, arguments_within}
use Rattle.term_sorts.proofs.Orders.{AreWithin, same_ids, any_is, within_of}
use Rattle.word_steps_spec.specs.Numbers as spec
use Rattle.word_steps_spec.specs.Numbers.{Operation, State, at_places, place_in, number_of_subterm, start, known_truth, is_fact, merged_with}
use Rattle.term_core_spec.proofs.Subterms.{there}
use Rattle.word_steps.specs.declared.number.Number.{Number}
use Rattle.word_steps.specs.declared.block.Block.{Block}
use Rattle.word_steps.specs.Views.{node_over, named, operation_of, index_among, number_of, numbers_of, sort_of_number, new_number, count_of, marks_at, unmarked, has_fact, noted_fact, fact_at}
use Rattle.word_steps.specs.Shows.{IsNumber, IsMarked, Shows}
use Rattle.word_steps.specs.Outcomes.{Becomes, IsPushed, AreSubterms}
use Rattle.word_steps.proofs.Operators.{node_wider}
use Rattle.word_steps.proofs.Later.{all_of}
use Rattle.word_steps.proofs.Noted.{number_among_more, marks-push}

-- ---- lists

slice_get-map : {X Y : Type 0} → (f : X → Y) (xs : List X) (i : ℕ) (x : X) → slice_get xs i ≡ Some x → slice_get (map f xs) i ≡ Some (f x)
slice_get-map f [] i x e = absurd (cc)
slice_get-map f (y ∷ xs) zero x e = ap (λ z. Some (f z)) (same_Some y x e)
slice_get-map f (y ∷ xs) (suc i) x e = slice_get-map f xs i x e

take_next : {X : Type 0} → (xs : List X) (i : ℕ) (x : X) → slice_get xs i ≡ Some x → take i xs ++ x ∷ [] ≡ take (suc i) xs
take_next [] i x e = absurd (cc)
take_next (y ∷ xs) zero x e = ap (λ z. z ∷ []) (sym (same_Some y x e))
take_next (y ∷ xs) (suc i) x e = ap (λ l. y ∷ l) (take_next xs i x e)

slice_get-take : {X : Type 0} → (xs : List X) (n i : ℕ) (x : X) → i < n → slice_get xs i ≡ Some x → slice_get (take n xs) i ≡ Some x
slice_get-take [] n i x less e = absurd (cc)
slice_get-take (y ∷ xs) zero i x less e = absurd (omega arith)
slice_get-take (y ∷ xs) (suc n) zero x less e = e
slice_get-take (y ∷ xs) (suc n) (suc i) x less e = slice_get-take xs n i x (omega arith) e

-- ---- where an id is among others

unfoldable pub found : ℕ → List ℕ → ℕ
found a [] = 0
found a (x ∷ rest) = cond (nat_eq a x) 0 (1 + found a rest)

found_is : (a : ℕ) (ids : List ℕ) → found a ids ≡ position_or_len (nat_eq a) ids
unfolding found
found_is a ids = is_position_or_len (found a) (nat_eq a) refl (λ x xs. refl) ids

found_within : (a : ℕ) (ids : List ℕ) → is_among ids a ≡ true → found a ids < length ids
unfolding found
found_within a [] h = absurd (cc)
found_within a (x ∷ rest) h = by (nat_eq a x) h (found_within a rest)
  where
    by : (test : Bool) → (test || is_among rest a) ≡ true → (is_among rest a ≡ true → found a rest < length rest) → cond test 0 (1 + found a rest) < length (x ∷ rest)
    by true e later = omega arith
    by false e later = let less = later e in omega (arith, less)

pub index_is : (ids : List ℕ) (i a : ℕ) → is_among ids a ≡ true → index_among ids i a ≡ found a ids
index_is ids i a h =
    ap (λ k. unwrap_or (cond (nat_lt k (length ids)) (Some k) None) 0) (sym (found_is a ids))
    ∙ ap (λ b. unwrap_or (cond b (Some (found a ids)) None) 0) (lt-ltb (found a ids) (length ids) (found_within a ids h))

found_before : (a : ℕ) (ids : List ℕ) (n : ℕ) → is_among (take n ids) a ≡ true → (found a ids < n) × (is_among ids a ≡ true)
unfolding found
found_before a [] zero h = absurd (cc)
found_before a [] (suc n) h = absurd (cc)
found_before a (x ∷ rest) zero h = absurd (cc)
found_before a (x ∷ rest) (suc n) h = by (nat_eq a x) h (found_before a rest n)
  where
    by : (test : Bool) → (test || is_among (take n rest) a) ≡ true → (is_among (take n rest) a ≡ true → (found a rest < n) × (is_among rest a ≡ true))
        → (cond test 0 (1 + found a rest) < suc n) × ((test || is_among rest a) ≡ true)
    by true e later = (omega arith, refl)
    by false e later = let h = later e in let less : found a rest < n = h.0 in (omega arith, h.1)

found_there : (a : ℕ) (ids : List ℕ) → is_among ids a ≡ true → slice_get ids (found a ids) ≡ Some a
unfolding found
found_there a [] h = absurd (cc)
found_there a (x ∷ rest) h = by (nat_eq a x) refl h (found_there a rest)
  where
    by : (test : Bool) → nat_eq a x ≡ test → (test || is_among rest a) ≡ true → (is_among rest a ≡ true → slice_get rest (found a rest) ≡ Some a)
        → slice_get (x ∷ rest) (cond test 0 (1 + found a rest)) ≡ Some a
    by true same e later = ap Some (sym (eqb-true a x same))
    by false same e later = let one : 1 + found a rest ≡ suc (found a rest) = omega arith in ap (slice_get (x ∷ rest)) one ∙ later e

module _ (trees : List Term) (apart : AreDistinct trees) where
  pub place_is : (a : ℕ) (ids : List ℕ) → a < length trees → AreWithin (length trees) ids → is_among ids a ≡ true → place_in (terms_of trees ids) (tree_at trees a) ≡ suc (found a ids)
  unfolding found place_in AreWithin
  place_is a [] less h here = absurd (cc)
  place_is a (x ∷ rest) less h here =
      ap (λ b. cond b 1 (suc (place_in (terms_of trees rest) (tree_at trees a)))) (sym (same_ids trees apart a x less h.0)) ∙ by (nat_eq a x) here (place_is a rest less h.1)
    where
      by : (test : Bool) → (test || is_among rest a) ≡ true → (is_among rest a ≡ true → place_in (terms_of trees rest) (tree_at trees a) ≡ suc (found a rest))
          → cond test 1 (suc (place_in (terms_of trees rest) (tree_at trees a))) ≡ suc (cond test 0 (1 + found a rest))
      by true e later = refl
      by false e later = let is = later e in omega (arith, is)

-- ---- the arguments of a term are before it

order_at : (trees : List Term) (before ids : List ℕ) (i id : ℕ) → IsOrderAfter trees before ids → slice_get ids i ≡ Some id
    → (a : Term) → IsIn a (arguments (tree_at trees id)) → IsIn a (terms_of trees (before ++ take i ids))
unfolding IsOrderAfter
order_at trees before [] i id h at a here = absurd (cc)
order_at trees before (x ∷ rest) zero id h at a here =
    subst (λ l. IsIn a (terms_of trees l)) (sym (append-nil before)) (h.1 a (subst (λ k. IsIn a (arguments (tree_at trees k))) (sym (same_Some x id at)) here))
order_at trees before (x ∷ rest) (suc i) id h at a here =
    subst (λ l. IsIn a (terms_of trees l)) (append_assoc before (x ∷ []) (take i rest)) (order_at trees (before ++ x ∷ []) rest i id h.2 at a here)

within_take : (n : ℕ) (ids : List ℕ) (i : ℕ) → AreWithin n ids → AreWithin n (take i ids)
unfolding AreWithin
within_take n [] zero h = tt
within_take n [] (suc i) h = tt
within_take n (x ∷ rest) zero h = tt
within_take n (x ∷ rest) (suc i) h = (h.0, within_take n rest i h.1)

-- each of some ids is found below n
unfoldable pub AllFound : List ℕ → ℕ → List ℕ → Type 0
AllFound ids n [] = Unit {0}
AllFound ids n (a ∷ rest) = ((found a ids < n) × (is_among ids a ≡ true)) × AllFound ids n rest

module _ (trees : List Term) (apart : AreDistinct trees) (ids : List ℕ) (order : IsOrder trees ids) (index id : ℕ) (at : slice_get ids index ≡ Some id)
    (node : TermNode) (before : IsNode id node) (holds : Holds trees id (build trees node)) where
  here : tree_at trees id ≡ build trees node
  here = get_or_from_slice_get trees id (build trees node) (tree.Leaf (atom.Truth false)) holds

  id_within : id < length trees
  id_within = slice_get_within trees id (build trees node) holds

  ids_within : AreWithin (length trees) ids
  ids_within = within_of trees [] ids order

  one_found : (a : ℕ) → a < id → IsIn (tree_at trees a) (arguments (tree_at trees id)) → (found a ids < index) × (is_among ids a ≡ true)
  one_found a less in_args =
      found_before a ids index
      (any_is trees apart a (take index ids) (omega (arith, less, id_within)) (within_take (length trees) ids index ids_within)
      ∙ order_at trees [] ids index id order at (tree_at trees a) in_args)

  found_args : (xs : List ℕ) → AreWithin id xs → ((a : Term) → IsIn a (terms_of trees xs) → IsIn a (arguments (tree_at trees id))) → AllFound ids index xs
  unfolding AllFound AreWithin
  found_args [] w h = tt
  found_args (a ∷ rest) w h = (
    one_found a w.0 (h (tree_at trees a) (first (same_term (tree_at trees a) (tree_at trees a)) (list_any (same_term (tree_at trees a)) (terms_of trees rest)) (same_itself (tree_at trees a)))),
    found_args rest w.1 (λ t e. h t (later (same_term t (tree_at trees a)) (list_any (same_term t) (terms_of trees rest)) e)),
  )
    where
      first : (p q : Bool) → p ≡ true → (p || q) ≡ true
      first true q e = refl
      first false q e = absurd (cc)

      later : (p q : Bool) → q ≡ true → (p || q) ≡ true
      later true q e = refl
      later false q e = e

  all_found : AllFound ids index (arguments_of node)
  all_found = found_args (arguments_of node) (arguments_within id node before) (λ t e. subst (IsIn t) (sym (ap arguments here ∙ arguments-build trees node)) e)

  within_index : (a i : ℕ) → (found a ids < index) × (is_among ids a ≡ true) → index_among ids i a < index
  within_index a i h = subst (λ k. k < index) (sym (index_is ids i a h.1)) h.0

  pub over_ids_within : IsNode index (node_over (index_among ids) node)
  unfolding AllFound node_over
  over_ids_within = by node all_found
    where
      by : (n : TermNode) → AllFound ids index (arguments_of n) → IsNode index (node_over (index_among ids) n)
      by (Leaf leaf) h = tt
      by (Unary o a) h = within_index a 1 h.0
      by (Binary o a b) h = (within_index a 1 h.0, within_index b 2 h.1.0)
      by (Ternary o a b c) h = (within_index a 1 h.0, within_index b 2 h.1.0, within_index c 3 h.1.1.0)
      by (Quaternary o a b c d) h = (within_index a 1 h.0, within_index b 2 h.1.0, within_index c 3 h.1.1.0, within_index d 4 h.1.1.1.0)
      by (Octonary a b c d e f g j) h =
          let q = h.1.1.1.1 in (
            within_index a 1 h.0,
            within_index b 2 h.1.0,
            within_index c 3 h.1.1.0,
            within_index d 4 h.1.1.1.0,
            within_index e 5 q.0,
            within_index f 6 q.1.0,
            within_index g 7 q.1.1.0,
            within_index j 8 q.1.1.1.0,
          )

  placed : (a i : ℕ) → a < id → (found a ids < index) × (is_among ids a ≡ true) → suc (index_among ids i a) ≡ place_in (terms_of trees ids) (tree_at trees a)
  placed a i less h = ap suc (index_is ids i a h.1) ∙ sym (place_is trees apart a ids (omega (arith, less, id_within)) ids_within h.1)

  pub operation_is : operation_of (node_over (index_among ids) node) ≡ at_places (λ i x. place_in (terms_of trees ids) x) (spec.operation_of (tree_at trees id))
  unfolding AllFound node_over named at_places spec.operation_of
  operation_is = by node before all_found ∙ ap (λ t. at_places (λ i x. place_in (terms_of trees ids) x) (spec.operation_of t)) (sym here)
    where
      by : (n : TermNode) → IsNode id n → AllFound ids index (arguments_of n)
          → operation_of (node_over (index_among ids) n) ≡ at_places (λ i x. place_in (terms_of trees ids) x) (spec.operation_of (build trees n))
      by (Leaf leaf) w h = refl
      by (Unary o a) w h =
          let ea = placed a 1 w h.0 in
          cc
      by (Binary o a b) w h =
          let ea = placed a 1 w.0 h.0 in
          let eb = placed b 2 w.1 h.1.0 in
          cc
      by (Ternary o a b c) w h =
          let ea = placed a 1 w.0 h.0 in
          let eb = placed b 2 w.1 h.1.0 in
          let ec = placed c 3 w.2 h.1.1.0 in
          cc
      by (Quaternary o a b c d) w h =
          let ea = placed a 1 w.0 h.0 in
          let eb = placed b 2 w.1 h.1.0 in
          let ec = placed c 3 w.2 h.1.1.0 in
          let ed = placed d 4 w.3 h.1.1.1.0 in
          cc
      by (Octonary a b c d e f g j) w h =
          let q = h.1.1.1.1 in
          let ea = placed a 1 w.0 h.0 in
          let eb = placed b 2 w.1 h.1.0 in
          let ec = placed c 3 w.2 h.1.1.0 in
          let ed = placed d 4 w.3 h.1.1.1.0 in
          let ee = placed e 5 w.4 q.0 in
          let ef = placed f 6 w.5 q.1.0 in
          let eg = placed g 7 w.6 q.1.1.0 in
          let ej = placed j 8 w.7 q.1.1.1.0 in
          cc

  -- the sorts of the numbers so far
  module _ (b : Block) (were : AreSubterms trees ids index b) where
    of_numbers : (xs : List Number) → map (sort_of_number trees) xs ≡ map (λ (m : spec.Number). sort_of m.term) (numbers_of trees xs)
    of_numbers [] = refl
    of_numbers (x ∷ xs) = ap (λ l. sort_of_number trees x ∷ l) (of_numbers xs)

    of_subterms : (ts : List Term) → map (λ (m : spec.Number). sort_of m.term) (map (number_of_subterm (terms_of trees ids)) ts) ≡ map sort_of ts
    of_subterms [] = refl
    of_subterms (t ∷ ts) = ap (λ l. sort_of t ∷ l) (of_subterms ts)

    sorts_are : b.sorts.items ≡ map sort_of (take index (terms_of trees ids))
    sorts_are =
        were.block.sorts ∙ of_numbers b.numbers.items ∙ ap (map (λ (m : spec.Number). sort_of m.term)) were.numbers
        ∙ of_subterms (take index (terms_of trees ids))

    sort_is_at : (a i : ℕ) → (found a ids < index) × (is_among ids a ≡ true) → sort_at b.sorts.items (index_among ids i a) ≡ sort_of (tree_at trees a)
    sort_is_at a i h =
        let there = slice_get-map (tree_at trees) ids (found a ids) a (found_there a ids h.1) in
        let taken = slice_get-take (terms_of trees ids) index (found a ids) (tree_at trees a) h.0 there in
        let sorted = slice_get-map sort_of (take index (terms_of trees ids)) (found a ids) (tree_at trees a) taken in
        ap (λ l. sort_at l (index_among ids i a)) sorts_are ∙ ap (λ k. sort_at (map sort_of (take index (terms_of trees ids))) k) (index_is ids i a h.1)
        ∙ get_or_from_slice_get (map sort_of (take index (terms_of trees ids))) (found a ids) (sort_of (tree_at trees a)) None sorted

    pub sort_added : sort_of_node b.sorts.items (node_over (index_among ids) node) ≡ sort_of (tree_at trees id)
    unfolding AllFound node_over sort_of
    sort_added = by node all_found ∙ ap sort_of (sym here)
      where
        by : (n : TermNode) → AllFound ids index (arguments_of n) → sort_of_node b.sorts.items (node_over (index_among ids) n) ≡ sort_of (build trees n)
        by (Leaf leaf) h = refl
        by (Unary o a) h =
            let ea = sort_is_at a 1 h.0 in
            cc
        by (Binary o a b) h =
            let ea = sort_is_at a 1 h.0 in
            let eb = sort_is_at b 2 h.1.0 in
            cc
        by (Ternary o a b c) h =
            let ea = sort_is_at a 1 h.0 in
            let eb = sort_is_at b 2 h.1.0 in
            let ec = sort_is_at c 3 h.1.1.0 in
            cc
        by (Quaternary o a b c d) h =
            let ea = sort_is_at a 1 h.0 in
            let eb = sort_is_at b 2 h.1.0 in
            let ec = sort_is_at c 3 h.1.1.0 in
            let ed = sort_is_at d 4 h.1.1.1.0 in
            cc
        by (Octonary a b c d e f g j) h =
            let q = h.1.1.1.1 in
            rw
            (sort_is_at a 1 h.0, sort_is_at b 2 h.1.0, sort_is_at c 3 h.1.1.0, sort_is_at d 4 h.1.1.1.0, sort_is_at e 5 q.0, sort_is_at f 6 q.1.0, sort_is_at g 7 q.1.1.0, sort_is_at j 8 q.1.1.1.0)
            refl

  -- the number of the next subterm
  pub subterm_added : (b after : Block) (s : Option Sort) → AreSubterms trees ids index b → s ≡ sort_of_node b.sorts.items (node_over (index_among ids) node)
      → IsPushed b after (new_number (node_over (index_among ids) node) id) s → AreSubterms trees ids (suc index) after
  subterm_added b after s were s_is pushed =
      record {
        block = record { numbers = numbers_then; sorts = sorts_then };
        numbers = ap (numbers_of trees) pushed.numbers ∙ map-append (number_of trees) b.numbers.items (n ∷ []) ∙ ap (λ l. l ++ number_of trees n ∷ []) were.numbers
            ∙ ap (λ m. map (number_of_subterm (terms_of trees ids)) (take index (terms_of trees ids)) ++ m ∷ []) number_is
            ∙ sym (map-append (number_of_subterm (terms_of trees ids)) (take index (terms_of trees ids)) (tree_at trees id ∷ []))
            ∙ ap (map (number_of_subterm (terms_of trees ids))) (take_next (terms_of trees ids) index (tree_at trees id) there);
        fresh = λ k. ap (λ l. marks_at l k) pushed.numbers ∙ marks-push b.numbers.items n k refl ∙ were.fresh k;
        so_many = count_then;
        changes = pushed.changes ∙ were.changes;
        sweeps = pushed.sweeps ∙ were.sweeps;
      }
    where
      n : Number
      n = new_number (node_over (index_among ids) node) id

      number_is : number_of trees n ≡ number_of_subterm (terms_of trees ids) (tree_at trees id)
      number_is = ap (λ o. made_of o) operation_is
        where
          made_of : Operation ℕ → spec.Number
          made_of o = record { operation = o; term = tree_at trees id; now = tree_at trees id }

      count_then : count_of after ≡ suc index
      count_then = omega (arith, ap length pushed.numbers, length-append b.numbers.items (n ∷ []), were.so_many)

      is_n : IsNumber (length trees) (suc index) n
      is_n = record { operation = node_wider index (suc index) (node_over (index_among ids) node) (omega arith) over_ids_within; term = id_within; now = id_within; merged = tt }

      numbers_then : All (IsNumber (length trees) (count_of after)) after.numbers.items
      numbers_then =
          subst (λ c. All (IsNumber (length trees) c) after.numbers.items) (sym count_then)
          (All-same (IsNumber (length trees) (suc index)) after.numbers.items (b.numbers.items ++ n ∷ []) pushed.numbers
          (All-push (IsNumber (length trees) (suc index)) b.numbers.items n
          (all_of (IsNumber (length trees) (count_of b)) (IsNumber (length trees) (suc index)) b.numbers.items (number_among_more (length trees) (count_of b) (suc index) (omega (arith, were.so_many))) were.block.numbers) is_n))

      sorts_then : after.sorts.items ≡ map (sort_of_number trees) after.numbers.items
      sorts_then =
          pushed.sorts ∙ ap (λ l. l ++ s ∷ []) were.block.sorts ∙ ap (λ t. map (sort_of_number trees) b.numbers.items ++ t ∷ []) (s_is ∙ sort_added b were)
          ∙ sym (map-append (sort_of_number trees) b.numbers.items (n ∷ [])) ∙ sym (ap (map (sort_of_number trees)) pushed.numbers)

      there : slice_get (terms_of trees ids) index ≡ Some (tree_at trees id)
      there = slice_get-map (tree_at trees) ids index id at

-- an id at a place is of a tree
pub within_at : (n : ℕ) (ids : List ℕ) (i id : ℕ) → AreWithin n ids → slice_get ids i ≡ Some id → id < n
unfolding AreWithin
within_at n [] i id h e = absurd (cc)
within_at n (x ∷ rest) zero id h e = subst (λ k. k < n) (same_Some x id e) h.0
within_at n (x ∷ rest) (suc i) id h e = within_at n rest i id h.1 e

-- ---- no number yet

take_zero : {X : Type 0} → (xs : List X) → take 0 xs ≡ []
take_zero [] = refl
take_zero (x ∷ xs) = refl

nothing_marked : (k : ℕ) → marks_at [] k ≡ unmarked
unfolding marks_at
nothing_marked zero = refl
nothing_marked (suc zero) = refl
nothing_marked (suc (suc i)) = refl

pub no_subterms : (trees : List Term) (ids : List ℕ) (b : Block) → b.numbers.items ≡ [] → b.sorts.items ≡ [] → b.changes ≡ 0 → b.sweeps ≡ 0 → AreSubterms trees ids 0 b
no_subterms trees ids b items sorts changes sweeps = record {
  block = record {
    numbers = All-same (IsNumber (length trees) (count_of b)) b.numbers.items [] items (All-nil (IsNumber (length trees) (count_of b)));
    sorts = sorts ∙ sym (ap (map (sort_of_number trees)) items);
  };
  numbers = ap (numbers_of trees) items ∙ sym (ap (map (number_of_subterm (terms_of trees ids))) (take_zero (terms_of trees ids)));
  fresh = λ k. ap (λ l. marks_at l k) items ∙ nothing_marked k;
  so_many = ap length items;
  changes = changes;
  sweeps = sweeps;
}

-- ---- the whole

take_all : {X : Type 0} → (xs : List X) (n : ℕ) → n ≡ length xs → take n xs ≡ xs
take_all [] zero e = refl
take_all [] (suc n) e = refl
take_all (x ∷ xs) zero e = absurd (omega (arith, e))
take_all (x ∷ xs) (suc n) e = ap (λ l. x ∷ l) (take_all xs n (omega (arith, e)))

module _ (trees : List Term) (apart : AreDistinct trees) (ids : List ℕ) (goal index : ℕ) (b after : Block) (order : IsOrder trees ids)
    (whole : terms_of trees ids ≡ subterms (tree_at trees goal)) (goal_within : goal < length trees) (were : AreSubterms trees ids (length ids) b)
    (index_here : index ≡ index_among ids 0 goal) where
  ids_below : AreWithin (length trees) ids
  ids_below = within_of trees [] ids order

  goal_there : is_among ids goal ≡ true
  goal_there =
      any_is trees apart goal ids goal_within ids_below
      ∙ subst (λ ts. list_any (same_term (tree_at trees goal)) ts ≡ true) (sym whole) (there (tree_at trees goal) [])

  pub index_within : index < count_of b
  index_within = let less = found_within goal ids goal_there in omega (arith, less, index_here, index_is ids 0 goal goal_there, were.so_many)

  place : suc index ≡ place_in (subterms (tree_at trees goal)) (tree_at trees goal)
  place =
      ap suc (index_here ∙ index_is ids 0 goal goal_there) ∙ sym (place_is trees apart goal ids goal_within ids_below goal_there)
      ∙ ap (λ ts. place_in ts (tree_at trees goal)) whole

  -- without its fact the first state is what the numbers are
  abbrev bare : State
  bare = record { numbers = numbers_of trees b.numbers.items; facts = []; merges = []; changes = 0; sweeps = 0 }

  bare_shown : Shows trees b bare
  unfolding known_truth is_fact merged_with
  bare_shown = record {
    numbers = refl;
    marked = λ k. subst (IsMarked bare k) (sym (were.fresh k)) (record { known = refl; facts = nothing; merged = refl });
    changes = sym were.changes;
    sweeps = sym were.sweeps;
  }
    where
      nothing : (holds : Bool) → false ≡ has_fact unmarked holds
      nothing true = refl
      nothing false = refl

  numbers_are : numbers_of trees b.numbers.items ≡ map (number_of_subterm (subterms (tree_at trees goal))) (subterms (tree_at trees goal))
  numbers_are =
      were.numbers ∙ ap (map (number_of_subterm (terms_of trees ids))) (take_all (terms_of trees ids) (length ids) (sym (length-map ids (tree_at trees))))
      ∙ ap (λ ts. map (number_of_subterm ts) ts) whole

  start_is : noted_fact (fact_at index false) bare ≡ start (tree_at trees goal)
  start_is =
      ap (λ ns. of_numbers ns (suc index)) numbers_are
      ∙ ap (of_numbers (map (number_of_subterm (subterms (tree_at trees goal))) (subterms (tree_at trees goal)))) place
    where
      of_numbers : List spec.Number → ℕ → State
      of_numbers ns k = record { numbers = ns; facts = record { number = k; holds = false } ∷ []; merges = []; changes = 0; sweeps = 0 }

  pub started : Becomes trees trees b after (noted_fact (fact_at index false)) → Shows trees after (start (tree_at trees goal))
  started h = subst (Shows trees after) start_is (h.shows bare bare_shown)
