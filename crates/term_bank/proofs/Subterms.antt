-- The ids that are reached from a term: the trees of all of them are its distinct subterms.
use Rattle.std.proofs.Common.{◌≡◌, ℕ, zero, suc, ◌+◌, ◌<◌, ◌≤◌, Bool, true, false, cond, List, [], ◌∷◌, ◌++◌, ◌⊎◌, inl, inr, map, length, Option, Some, None, refl, sym, ap, ◌∙◌, subst, arith, length-append, eqb-true, get_or}
use Rattle.std.specs.Prelude.{slice_get, nat_eq, nat_le, ◌||◌}
use Rattle.std.specs.List.{list_any, IsDistinct, AllByRecursion}
use Rattle.std.proofs.lemmas.List.Folds.{list_any-append}
use Rattle.std.proofs.lemmas.Bool.{le-leb, lt-leb, eqb-false}
use Rattle.std.proofs.lemmas.Option.{same_Some, slice_get_within, slice_get-get_or, get_or_from_slice_get}
use Rattle.term_core_spec.specs.declared.Atom.TheVariants as atom
use Rattle.term_core_spec.specs.Term as tree
use Rattle.term_core_spec.specs.Term.{Term}
use Rattle.term_core_spec.specs.Same.{same_term}
use Rattle.term_core_spec.specs.Subterms.{subterms, subterm_count, arguments, IsIn, IsClosed, up_to}
use Rattle.term_core_spec.proofs.Same.{same_is, same_itself}
use Rattle.term_core_spec.proofs.Subterms.{there, subterms-closed, count_le, le_count}
use Rattle.term_bank.specs.declared.node.TermNode.{TermNode}
use Rattle.term_bank.specs.declared.node.TermNode.TheVariants.{Leaf, Unary, Binary, Ternary, Quaternary, Octonary}
use Rattle.term_bank.specs.Nodes.{IsNode, tree_at, build, Holds, AreDistinct}
use Rattle.term_bank.specs.Subterms.{arguments_of, with_id, with_ids}
use Rattle.term_bank.proofs.Growth.{held, slice_get-front}

abbrev pub IsId : ℕ → List ℕ → Type 0
IsId i ids = list_any (nat_eq i) ids ≡ true

-- ---- tests

or_left : (p q : Bool) → p ≡ true → (p || q) ≡ true
or_left true q e = refl
or_left false q e = absurd (cc)

or_right : (p q : Bool) → q ≡ true → (p || q) ≡ true
or_right true q e = refl
or_right false q e = e

or_either : (p q : Bool) → (p || q) ≡ true → (p ≡ true) ⊎ (q ≡ true)
or_either true q e = inl refl
or_either false q e = inr e

eq_itself : (i : ℕ) → nat_eq i i ≡ true
eq_itself i = search arith

id_first : (i : ℕ) (ids : List ℕ) → IsId i (i ∷ ids)
id_first i ids = or_left (nat_eq i i) (list_any (nat_eq i) ids) (eq_itself i)

id_later : (j i : ℕ) (ids : List ℕ) → IsId j ids → IsId j (i ∷ ids)
id_later j i ids h = or_right (nat_eq j i) (list_any (nat_eq j) ids) h

-- ---- one id more, and some more

id_front : (i : ℕ) (xs ys : List ℕ) → IsId i xs → IsId i (xs ++ ys)
id_front i xs ys h = list_any-append (nat_eq i) xs ys ∙ or_left (list_any (nat_eq i) xs) (list_any (nat_eq i) ys) h

id_back : (i : ℕ) (xs ys : List ℕ) → IsId i ys → IsId i (xs ++ ys)
id_back i xs ys h = list_any-append (nat_eq i) xs ys ∙ or_right (list_any (nat_eq i) xs) (list_any (nat_eq i) ys) h

with_id-more : (ids : List ℕ) (i j : ℕ) → IsId j ids → IsId j (with_id ids i)
with_id-more ids i j h = by (list_any (nat_eq i) ids)
  where
    by : (test : Bool) → IsId j (cond test ids (ids ++ i ∷ []))
    by true = h
    by false = id_front j ids (i ∷ []) h

with_id-there : (ids : List ℕ) (i : ℕ) → IsId i (with_id ids i)
with_id-there ids i = by (list_any (nat_eq i) ids) refl
  where
    by : (test : Bool) → list_any (nat_eq i) ids ≡ test → IsId i (cond test ids (ids ++ i ∷ []))
    by true e = e
    by false e = id_back i ids (i ∷ []) (or_left (nat_eq i i) false (eq_itself i))

with_id-either : (ids : List ℕ) (i j : ℕ) → IsId j (with_id ids i) → IsId j ids ⊎ (j ≡ i)
with_id-either ids i j h = by (list_any (nat_eq i) ids) h
  where
    one : (p : Bool) → nat_eq j i ≡ p → (p || false) ≡ true → j ≡ i
    one true same e = eqb-true j i same
    one false same e = absurd (cc)

    last : (list_any (nat_eq j) ids ≡ true) ⊎ (list_any (nat_eq j) (i ∷ []) ≡ true) → IsId j ids ⊎ (j ≡ i)
    last (inl e) = inl e
    last (inr e) = inr (one (nat_eq j i) refl e)

    by : (test : Bool) → IsId j (cond test ids (ids ++ i ∷ [])) → IsId j ids ⊎ (j ≡ i)
    by true h = inl h
    by false h = last (or_either (list_any (nat_eq j) ids) (list_any (nat_eq j) (i ∷ [])) (sym (list_any-append (nat_eq j) ids (i ∷ [])) ∙ h))

with_id-extends : (ids : List ℕ) (i : ℕ) → (more : List ℕ) × (with_id ids i ≡ ids ++ more)
with_id-extends ids i = by (list_any (nat_eq i) ids)
  where
    nil : (xs : List ℕ) → xs ≡ xs ++ []
    nil [] = refl
    nil (x ∷ xs) = ap (λ l. x ∷ l) (nil xs)

    by : (test : Bool) → (more : List ℕ) × (cond test ids (ids ++ i ∷ []) ≡ ids ++ more)
    by true = ([], nil ids)
    by false = (i ∷ [], refl)

more : (ids xs : List ℕ) (j : ℕ) → IsId j ids → IsId j (with_ids ids xs)
more ids [] j h = h
more ids (i ∷ rest) j h = more (with_id ids i) rest j (with_id-more ids i j h)

either : (ids xs : List ℕ) (j : ℕ) → IsId j (with_ids ids xs) → IsId j ids ⊎ IsId j xs
either ids [] j h = inl h
either ids (i ∷ rest) j h = by (either (with_id ids i) rest j h)
  where
    step : IsId j ids ⊎ (j ≡ i) → IsId j ids ⊎ IsId j (i ∷ rest)
    step (inl e) = inl e
    step (inr e) = inr (or_left (nat_eq j i) (list_any (nat_eq j) rest) (subst (λ k. nat_eq j k ≡ true) e (eq_itself j)))

    by : IsId j (with_id ids i) ⊎ IsId j rest → IsId j ids ⊎ IsId j (i ∷ rest)
    by (inl e) = step (with_id-either ids i j e)
    by (inr e) = inr (or_right (nat_eq j i) (list_any (nat_eq j) rest) e)

all_there : (ids xs : List ℕ) (j : ℕ) → IsId j xs → IsId j (with_ids ids xs)
all_there ids [] j h = absurd (cc)
all_there ids (i ∷ rest) j h = by (or_either (nat_eq j i) (list_any (nat_eq j) rest) h) (all_there (with_id ids i) rest j)
  where
    by : (nat_eq j i ≡ true) ⊎ IsId j rest → (IsId j rest → IsId j (with_ids (with_id ids i) rest)) → IsId j (with_ids (with_id ids i) rest)
    by (inl e) later = more (with_id ids i) rest j (subst (λ k. IsId k (with_id ids i)) (sym (eqb-true j i e)) (with_id-there ids i))
    by (inr e) later = later e

stays : (ids xs : List ℕ) (k i : ℕ) → slice_get ids k ≡ Some i → slice_get (with_ids ids xs) k ≡ Some i
stays ids [] k i e = e
stays ids (x ∷ rest) k i e =
    let longer = with_id-extends ids x in
    stays (with_id ids x) rest k i (subst (λ l. slice_get l k ≡ Some i) (sym longer.1) (slice_get-front ids longer.0 k i e))

longer : (ids xs : List ℕ) → length ids ≤ length (with_ids ids xs)
longer ids [] = omega arith
longer ids (i ∷ rest) =
    let one = with_id-extends ids i in
    omega (arith, longer (with_id ids i) rest, ap length one.1, length-append ids one.0)

-- an id of a list is at some index, and what is at an index is an id of it
at_index : (ids : List ℕ) (i : ℕ) → IsId i ids → (k : ℕ) × (k < length ids) × (slice_get ids k ≡ Some i)
at_index [] i h = absurd (cc)
at_index (x ∷ ids) i h = by (or_either (nat_eq i x) (list_any (nat_eq i) ids) h) (at_index ids i)
  where
    by : (nat_eq i x ≡ true) ⊎ IsId i ids
        → (IsId i ids → (k : ℕ) × (k < length ids) × (slice_get ids k ≡ Some i)) → (k : ℕ) × (k < length (x ∷ ids)) × (slice_get (x ∷ ids) k ≡ Some i)
    by (inl e) later = (zero, omega arith, ap Some (sym (eqb-true i x e)))
    by (inr e) later = let found = later e in (suc found.0, omega (arith, found.1), found.2)

pub is_id : (ids : List ℕ) (k i : ℕ) → slice_get ids k ≡ Some i → IsId i ids
is_id [] k i e = absurd (cc)
is_id (x ∷ ids) zero i e = or_left (nat_eq i x) (list_any (nat_eq i) ids) (subst (λ y. nat_eq i y ≡ true) (sym (same_Some x i e)) (eq_itself i))
is_id (x ∷ ids) (suc k) i e = or_right (nat_eq i x) (list_any (nat_eq i) ids) (is_id ids k i e)

-- ---- the arguments of a node

module _ (trees : List Term) where
  arguments-build : (node : TermNode) → arguments (build trees node) ≡ map (tree_at trees) (arguments_of node)
  unfolding arguments
  arguments-build (Leaf leaf) = refl
  arguments-build (Unary operator a) = refl
  arguments-build (Binary operator a b) = refl
  arguments-build (Ternary operator a b c) = refl
  arguments-build (Quaternary operator a b c d) = refl
  arguments-build (Octonary a b c d e f g h) = refl

  -- a term among the trees of some ids is that of one of them
  in_map : (ids : List ℕ) (t : Term) → IsIn t (map (tree_at trees) ids) → (i : ℕ) × IsId i ids × (t ≡ tree_at trees i)
  in_map [] t h = absurd (cc)
  in_map (x ∷ ids) t h = by (or_either (same_term t (tree_at trees x)) (list_any (same_term t) (map (tree_at trees) ids)) h) (in_map ids t)
    where
      by : (same_term t (tree_at trees x) ≡ true) ⊎ IsIn t (map (tree_at trees) ids)
          → (IsIn t (map (tree_at trees) ids) → (i : ℕ) × IsId i ids × (t ≡ tree_at trees i)) → (i : ℕ) × IsId i (x ∷ ids) × (t ≡ tree_at trees i)
      by (inl e) later = (x, or_left (nat_eq x x) (list_any (nat_eq x) ids) (eq_itself x), same_is t (tree_at trees x) e)
      by (inr e) later =
          let found = later e in
          (found.0, or_right (nat_eq found.0 x) (list_any (nat_eq found.0) ids) found.1, found.2)

  map_in : (ids : List ℕ) (i : ℕ) → IsId i ids → IsIn (tree_at trees i) (map (tree_at trees) ids)
  map_in [] i h = absurd (cc)
  map_in (x ∷ ids) i h = by (or_either (nat_eq i x) (list_any (nat_eq i) ids) h) (map_in ids i)
    where
      by : (nat_eq i x ≡ true) ⊎ IsId i ids → (IsId i ids → IsIn (tree_at trees i) (map (tree_at trees) ids)) → IsIn (tree_at trees i) (map (tree_at trees) (x ∷ ids))
      by (inl e) later = or_left (same_term (tree_at trees i) (tree_at trees x)) (list_any (same_term (tree_at trees i)) (map (tree_at trees) ids)) (subst (λ k. same_term (tree_at trees i) (tree_at trees k) ≡ true) (eqb-true i x e) (same_itself (tree_at trees i)))
      by (inr e) later = or_right (same_term (tree_at trees i) (tree_at trees x)) (list_any (same_term (tree_at trees i)) (map (tree_at trees) ids)) (later e)

-- each of some numbers is below n
unfoldable AllBelow : ℕ → List ℕ → Type 0
AllBelow n [] = Unit {0}
AllBelow n (x ∷ rest) = (x < n) × AllBelow n rest

all_below : (n : ℕ) (xs : List ℕ) → AllBelow n xs → (j : ℕ) → IsId j xs → j < n
unfolding AllBelow
all_below n [] h j e = absurd (cc)
all_below n (x ∷ rest) h j e = by (or_either (nat_eq j x) (list_any (nat_eq j) rest) e) (all_below n rest h.1 j)
  where
    by : (nat_eq j x ≡ true) ⊎ IsId j rest → (IsId j rest → j < n) → j < n
    by (inl e) later = subst (λ k. k < n) (sym (eqb-true j x e)) h.0
    by (inr e) later = later e

arguments_below : (n : ℕ) (node : TermNode) → IsNode n node → AllBelow n (arguments_of node)
unfolding AllBelow
arguments_below n (Leaf leaf) h = tt
arguments_below n (Unary operator a) h = (h, tt)
arguments_below n (Binary operator a b) h = (h.0, (h.1, tt))
arguments_below n (Ternary operator a b c) h = (h.0, (h.1, (h.2, tt)))
arguments_below n (Quaternary operator a b c d) h = (h.0, (h.1, (h.2, (h.3, tt))))
arguments_below n (Octonary a b c d e f g i) h = (h.0, (h.1, (h.2, (h.3, (h.4, (h.5, (h.6, (h.7, tt))))))))

-- ---- what was found

-- the ids that were found from a goal; the arguments of the first `done` are among them
pub record IsFound (trees : List Term) (goal : ℕ) (ids : List ℕ) (done : ℕ) : Type 0 where
  pub within : (i : ℕ) → IsId i ids → i < length trees
  pub among : (i : ℕ) → IsId i ids → IsIn (tree_at trees i) (subterms (tree_at trees goal))
  pub closed : (k i : ℕ) → k < done → slice_get ids k ≡ Some i → (a : Term) → IsIn a (arguments (tree_at trees i)) → IsIn a (map (tree_at trees) ids)
  pub has_goal : IsId goal ids
  pub count : done ≤ length ids

-- the goal alone
pub found_first : (trees : List Term) (goal : ℕ) (ids : List ℕ) → goal < length trees → ids ≡ with_id [] goal → IsFound trees goal ids 0
found_first trees goal ids below e = subst (λ l. IsFound trees goal l 0) (sym e) start
  where
    only : (i : ℕ) → IsId i (goal ∷ []) → i ≡ goal
    only i h = by (or_either (nat_eq i goal) false h)
      where
        by : (nat_eq i goal ≡ true) ⊎ (false ≡ true) → i ≡ goal
        by (inl e) = eqb-true i goal e
        by (inr e) = absurd (cc)

    start : IsFound trees goal (goal ∷ []) 0
    start = record {
      within = λ i h. subst (λ k. k < length trees) (sym (only i h)) below;
      among = λ i h. subst (λ k. IsIn (tree_at trees k) (subterms (tree_at trees goal))) (sym (only i h)) (there (tree_at trees goal) []);
      closed = λ k i less at a here. absurd (omega arith);
      has_goal = or_left (nat_eq goal goal) false (eq_itself goal);
      count = omega arith;
    }

-- the arguments of one node more
pub found_more : (trees : List Term) (goal : ℕ) (ids new : List ℕ) (done i : ℕ) (node : TermNode)
    → IsFound trees goal ids done → slice_get ids done ≡ Some i → IsNode i node → Holds trees i (build trees node) → new ≡ with_ids ids (arguments_of node)
    → IsFound trees goal new (done + 1)
found_more trees goal ids new done i node w at fits holds e = subst (λ l. IsFound trees goal l (done + 1)) (sym e) next
  where
    xs : List ℕ
    xs = arguments_of node

    here : tree_at trees i ≡ build trees node
    here = get_or_from_slice_get trees i (build trees node) (tree.Leaf (atom.Truth false)) holds

    arguments_are : arguments (tree_at trees i) ≡ map (tree_at trees) xs
    arguments_are = ap arguments here ∙ arguments-build trees node

    below : i < length trees
    below = slice_get_within trees i (build trees node) holds

    within : (j : ℕ) → IsId j ids ⊎ IsId j xs → j < length trees
    within j (inl h) = w.within j h
    within j (inr h) = let less = all_below i xs (arguments_below i node fits) j h in omega (arith, below)

    among : (j : ℕ) → IsId j ids ⊎ IsId j xs → IsIn (tree_at trees j) (subterms (tree_at trees goal))
    among j (inl h) = w.among j h
    among j (inr h) =
        subterms-closed (tree_at trees goal) (tree_at trees i) (w.among i (is_id ids done i at)) (tree_at trees j)
        (subst (λ l. IsIn (tree_at trees j) l) (sym arguments_are) (map_in trees xs j h))

    grows : (a : Term) → IsIn a (map (tree_at trees) ids) → IsIn a (map (tree_at trees) (with_ids ids xs))
    grows a h =
        let from = in_map trees ids a h in
        subst (λ t. IsIn t (map (tree_at trees) (with_ids ids xs))) (sym from.2) (map_in trees (with_ids ids xs) from.0 (more ids xs from.0 from.1))

    reached : (a : Term) → IsIn a (map (tree_at trees) xs) → IsIn a (map (tree_at trees) (with_ids ids xs))
    reached a h =
        let from = in_map trees xs a h in
        subst (λ t. IsIn t (map (tree_at trees) (with_ids ids xs))) (sym from.2) (map_in trees (with_ids ids xs) from.0 (all_there ids xs from.0 from.1))

    before : (k j : ℕ) → k < done → slice_get (with_ids ids xs) k ≡ Some j → slice_get ids k ≡ Some j
    before k j less e =
        let old : slice_get ids k ≡ Some (get_or ids k 0) = slice_get-get_or ids k 0 (omega (arith, w.count)) in
        old ∙ sym (stays ids xs k (get_or ids k 0) old) ∙ e

    closed : (k j : ℕ) → k < done + 1 → slice_get (with_ids ids xs) k ≡ Some j → (test : Bool) → nat_eq k done ≡ test
        → (a : Term) → IsIn a (arguments (tree_at trees j)) → IsIn a (map (tree_at trees) (with_ids ids xs))
    closed k j less e true same a h =
        let is : k ≡ done = eqb-true k done same in
        let one : j ≡ i = same_Some j i (sym e ∙ ap (slice_get (with_ids ids xs)) is ∙ stays ids xs done i at) in
        reached a (subst (λ l. IsIn a l) arguments_are (subst (λ n. IsIn a (arguments (tree_at trees n))) one h))
    closed k j less e false same a h =
        let lower : k < done = omega (arith, eqb-false k done same) in
        grows a (w.closed k j lower (before k j lower e) a h)

    next : IsFound trees goal (with_ids ids xs) (done + 1)
    next = record {
      within = λ j h. within j (either ids xs j h);
      among = λ j h. among j (either ids xs j h);
      closed = λ k j less e. closed k j less e (nat_eq k done) refl;
      has_goal = more ids xs goal w.has_goal;
      count = omega (arith, w.count, slice_get_within ids done i at, longer ids xs);
    }

-- ---- how many they are

module _ (trees : List Term) (apart : AreDistinct trees) where
  trees_differ : (i j : ℕ) → i < length trees → j < length trees → nat_eq i j ≡ false → same_term (tree_at trees i) (tree_at trees j) ≡ false
  trees_differ i j hi hj different = by (same_term (tree_at trees i) (tree_at trees j)) refl
    where
      by : (test : Bool) → same_term (tree_at trees i) (tree_at trees j) ≡ test → test ≡ false
      by false e = refl
      by true e =
          let same = same_is (tree_at trees i) (tree_at trees j) e in
          let one : i ≡ j = apart i j (tree_at trees i) (held trees i hi) (held trees j hj ∙ ap Some (sym same)) in
          absurd (eqb-false i j different one)

  others : (i : ℕ) (ids : List ℕ) → i < length trees → ((j : ℕ) → IsId j ids → j < length trees) → AllByRecursion (λ j. nat_eq i j ≡ false) ids
      → AllByRecursion (λ t. same_term (tree_at trees i) t ≡ false) (map (tree_at trees) ids)
  others i [] hi h all = tt
  others i (j ∷ ids) hi h all =
      (trees_differ i j hi (h j (id_first j ids)) all.0, others i ids hi (λ k e. h k (id_later k j ids e)) all.1)

  pub distinct_trees : (ids : List ℕ) → IsDistinct nat_eq ids → ((j : ℕ) → IsId j ids → j < length trees) → IsDistinct same_term (map (tree_at trees) ids)
  unfolding IsDistinct
  distinct_trees [] d h = tt
  distinct_trees (i ∷ ids) d h =
      (others i ids (h i (id_first i ids)) (λ k e. h k (id_later k i ids e)) d.0, distinct_trees ids d.1 (λ k e. h k (id_later k i ids e)))

length-map : (f : ℕ → Term) (ids : List ℕ) → length (map f ids) ≡ length ids
length-map f [] = refl
length-map f (i ∷ ids) = ap suc (length-map f ids)

-- at most as many as subterms
found_le : (trees : List Term) (goal : ℕ) (ids : List ℕ) (done : ℕ) → AreDistinct trees → IsDistinct nat_eq ids → IsFound trees goal ids done → length ids ≤ subterm_count (tree_at trees goal)
found_le trees goal ids done apart d w =
    let le = le_count (tree_at trees goal) (map (tree_at trees) ids) (distinct_trees trees apart ids d w.within) within in
    omega (arith, le, length-map (tree_at trees) ids)
  where
    within : (u : Term) → IsIn u (map (tree_at trees) ids) → IsIn u (subterms (tree_at trees goal))
    within u h =
        let from = in_map trees ids u h in
        subst (λ t. IsIn t (subterms (tree_at trees goal))) (sym from.2) (w.among from.0 from.1)

-- and as many, where the arguments of all are among them
le_found : (trees : List Term) (goal : ℕ) (ids : List ℕ) → IsFound trees goal ids (length ids) → subterm_count (tree_at trees goal) ≤ length ids
le_found trees goal ids w =
    let le = count_le (tree_at trees goal) (map (tree_at trees) ids) closed (map_in trees ids goal w.has_goal) in
    omega (arith, le, length-map (tree_at trees) ids)
  where
    closed : IsClosed (map (tree_at trees) ids)
    closed t h a here =
        let from = in_map trees ids t h in
        let at = at_index ids from.0 from.1 in
        w.closed at.0 from.0 at.1 at.2 a (subst (λ u. IsIn a (arguments u)) from.2 here)

-- all were found
pub counted : (trees : List Term) (goal : ℕ) (ids : List ℕ) (maximum done : ℕ) → AreDistinct trees → IsDistinct nat_eq ids → IsFound trees goal ids done
    → done ≡ length ids → done ≤ maximum → Some done ≡ up_to maximum (subterm_count (tree_at trees goal))
counted trees goal ids maximum done apart d w all most =
    let lower = found_le trees goal ids done apart d w in
    let upper = le_found trees goal ids (subst (IsFound trees goal ids) all w) in
    let is : subterm_count (tree_at trees goal) ≡ done = omega arith in
    sym (ap (up_to maximum) is ∙ ap (λ b. cond b (Some done) None) (le-leb done maximum most))

-- more than the maximum were found
pub too_many : (trees : List Term) (goal : ℕ) (ids : List ℕ) (maximum done : ℕ) → AreDistinct trees → IsDistinct nat_eq ids → IsFound trees goal ids done
    → maximum < length ids → None ≡ up_to maximum (subterm_count (tree_at trees goal))
too_many trees goal ids maximum done apart d w above =
    let lower = found_le trees goal ids done apart d w in
    let n : ℕ = subterm_count (tree_at trees goal) in
    sym (ap (λ b. cond b (Some n) None) (lt-leb n maximum (omega arith)))
