-- The steps of a walk over the terms below one.
use Rattle.std.proofs.Common.{◌≡◌, ◌≢◌, ℕ, zero, suc, ◌+◌, ◌*◌, ◌<◌, ◌≤◌, Bool, true, false, cond, List, [], ◌∷◌, ◌++◌, length, Option, Some, None, refl, sym, ap, ◌∙◌, subst, ⊎_elim, arith, append_assoc, append-nil}
use Rattle.std.specs.Prelude.{◌||◌, nat_eq, MatchOption}
use Rattle.std.specs.Option.{option_to_list}
use Rattle.std.proofs.lemmas.List.{map-append}
use Rattle.std.proofs.lemmas.List.Folds.{list_any-append}
use Rattle.std.proofs.lemmas.Bool.{cases_eq, ne_eqb}
use Rattle.std.proofs.lemmas.Option.{same_Some, get_or_from_slice_get, slice_get_within}
use Rattle.term_core_spec.specs.declared.Atom.TheVariants as atom
use Rattle.term_core_spec.specs.Term as tree
use Rattle.term_core_spec.specs.Term.{Term}
use Rattle.term_core_spec.specs.Subterms.{with_subterms, with_term, arguments, IsIn}
use Rattle.term_core_spec.proofs.Subterms.{AllIn, more}
use Rattle.indexmap.specs.IndexSet.{insert_key}
use Rattle.term_bank.specs.declared.node.TermNode.{TermNode}
use Rattle.term_bank.specs.declared.node.TermNode.TheVariants.{Leaf, Unary, Binary, Ternary, Quaternary, Octonary}
use Rattle.term_bank.specs.Nodes.{IsNode, tree_at, build, Holds, AreDistinct}
use Rattle.term_bank.specs.Subterms.{arguments_of}
use Rattle.term_sorts.specs.Order.{terms_of, is_among, IsOrder, Begins, AddsSubterms, first_missing, Waits, left, work, with_waiting, IsWalk, IsStep}
use Rattle.term_sorts.proofs.Subterms.{in_all, with_each, with_term-out, by_arguments, there_same, each_there, one_before, later_before}
use Rattle.term_sorts.proofs.Orders.{AreWithin, any_is, within_of, push, closed_of}

-- ---- what waits

pub below_bound : (ids : List ℕ) (b : ℕ) (ws : List ℕ) (a : ℕ) → Waits ids b ws a → a < b
unfolding Waits
below_bound ids b [] a h = h.0
below_bound ids b (w ∷ ws) a h =
    let less : w < b = h.0 in
    let least : a < w = below_bound ids w ws a h.2 in
    omega arith

has_none : (ids : List ℕ) (b : ℕ) (ws : List ℕ) (a : ℕ) → Waits ids b ws a → is_among ids a ≡ false
unfolding Waits
has_none ids b [] a h = h.1
has_none ids b (w ∷ ws) a h = has_none ids w ws a h.2

Waits-push : (ids : List ℕ) (b : ℕ) (ws : List ℕ) (a c : ℕ) → Waits ids b ws a → c < a → is_among ids c ≡ false → Waits ids b (ws ++ a ∷ []) c
unfolding Waits
Waits-push ids b [] a c h less none = (h.0, h.1, (less, none))
Waits-push ids b (w ∷ ws) a c h less none = (h.0, h.1, Waits-push ids w ws a c h.2 less none)

Waits-pop : (ids new : List ℕ) (b : ℕ) (ws : List ℕ) (w a : ℕ) → ((k : ℕ) → a < k → is_among new k ≡ is_among ids k) → Waits ids b (ws ++ w ∷ []) a → Waits new b ws w
unfolding Waits
Waits-pop ids new b [] w a same h = (h.0, same w h.2.0 ∙ h.1)
Waits-pop ids new b (v ∷ ws) w a same h = (h.0, same v (below_bound ids v (ws ++ w ∷ []) a h.2) ∙ h.1, Waits-pop ids new v ws w a same h.2)

-- ---- how much is left

abbrev tick : Bool → ℕ
tick b = cond b 0 1

left-same : (ids new : List ℕ) (n : ℕ) → ((k : ℕ) → k < n → is_among new k ≡ is_among ids k) → left new n ≡ left ids n
unfolding left
left-same ids new zero same = refl
left-same ids new (suc n) same =
    let before : left new n ≡ left ids n = left-same ids new n (λ k below. same k (omega arith)) in
    let here : tick (is_among new n) ≡ tick (is_among ids n) = ap tick (same n (omega arith)) in
    omega arith

left-made : (ids new : List ℕ) (n a : ℕ) → a < n → is_among ids a ≡ false → is_among new a ≡ true → ((k : ℕ) → k ≢ a → is_among new k ≡ is_among ids k) → left ids n ≡ left new n + 1
unfolding left
left-made ids new zero a below none made same = absurd (omega arith)
left-made ids new (suc n) a below none made same =
    ⊎_elim
    (λ (e : a ≡ n).
    let before : left new n ≡ left ids n = left-same ids new n (λ k less. same k (λ at. omega (arith, e, at))) in
    let old : tick (is_among ids n) ≡ 1 = ap (λ k. tick (is_among ids k)) (sym e) ∙ ap tick none in
    let new_one : tick (is_among new n) ≡ 0 = ap (λ k. tick (is_among new k)) (sym e) ∙ ap tick made in
    omega arith)
    (λ (apart : a ≢ n).
    let before : left ids n ≡ left new n + 1 = left-made ids new n a (omega arith) none made same in
    let here : tick (is_among new n) ≡ tick (is_among ids n) = ap tick (same n (λ e. apart (sym e))) in
    omega arith)
    (cases_eq a n)

less_by_one : (l k m w a : ℕ) → k ≡ l + 1 → w < m → l * m + w < k * m + a
less_by_one l k m w a e less = rw e (omega arith)

-- ---- the arguments of a node

pub arguments-build : (trees : List Term) (node : TermNode) → arguments (build trees node) ≡ terms_of trees (arguments_of node)
unfolding arguments
arguments-build trees (Leaf leaf) = refl
arguments-build trees (Unary operator a) = refl
arguments-build trees (Binary operator a b) = refl
arguments-build trees (Ternary operator a b c) = refl
arguments-build trees (Quaternary operator a b c d) = refl
arguments-build trees (Octonary a b c d e f g h) = refl

pub arguments_within : (n : ℕ) (node : TermNode) → IsNode n node → AreWithin n (arguments_of node)
unfolding AreWithin
arguments_within n (Leaf leaf) h = tt
arguments_within n (Unary operator a) h = (h, tt)
arguments_within n (Binary operator a b) h = (h.0, (h.1, tt))
arguments_within n (Ternary operator a b c) h = (h.0, (h.1, (h.2, tt)))
arguments_within n (Quaternary operator a b c d) h = (h.0, (h.1, (h.2, (h.3, tt))))
arguments_within n (Octonary a b c d e f g i) h = (h.0, (h.1, (h.2, (h.3, (h.4, (h.5, (h.6, (h.7, tt))))))))

-- the first that is missing is one of them, and isn't there
missing_is : (ids args : List ℕ) (n c : ℕ) → AreWithin n args → first_missing ids args ≡ Some c → (c < n) × (is_among ids c ≡ false)
unfolding first_missing AreWithin
missing_is ids [] n c h e = absurd (cc)
missing_is ids (a ∷ rest) n c h e = by (is_among ids a) refl e (missing_is ids rest n c h.1)
  where
    by : (test : Bool) → is_among ids a ≡ test → cond test (first_missing ids rest) (Some a) ≡ Some c
        → (first_missing ids rest ≡ Some c → (c < n) × (is_among ids c ≡ false)) → (c < n) × (is_among ids c ≡ false)
    by true here f later = later f
    by false here f later = let is : a ≡ c = same_Some a c f in (subst (λ k. k < n) is h.0, subst (λ k. is_among ids k ≡ false) is here)

module _ (trees : List Term) (apart : AreDistinct trees) (ids : List ℕ) (order : IsOrder trees ids) where
  abbrev terms : List Term
  terms = terms_of trees ids

  is_in : (a : ℕ) → a < length trees → is_among ids a ≡ true → IsIn (tree_at trees a) terms
  is_in a less here = sym (any_is trees apart a ids less (within_of trees [] ids order)) ∙ here

  -- none is missing
  all_there : (args : List ℕ) → AreWithin (length trees) args → first_missing ids args ≡ None → AllIn (terms_of trees args) terms
  unfolding first_missing AreWithin AllIn
  all_there [] h e = tt
  all_there (a ∷ rest) h e = by (is_among ids a) refl e (all_there rest h.1)
    where
      by : (test : Bool) → is_among ids a ≡ test → cond test (first_missing ids rest) (Some a) ≡ None
          → (first_missing ids rest ≡ None → AllIn (terms_of trees rest) terms) → AllIn (terms_of trees (a ∷ rest)) terms
      by true here f later = (is_in a h.0 here, later f)
      by false here f later = absurd (cc)

  -- the subterms of the first that is missing may be added before
  missing_before : (args : List ℕ) (c : ℕ) → AreWithin (length trees) args → first_missing ids args ≡ Some c
      → with_each (terms_of trees args) (with_subterms (tree_at trees c) terms) ≡ with_each (terms_of trees args) terms
  unfolding first_missing AreWithin
  missing_before [] c h e = absurd (cc)
  missing_before (a ∷ rest) c h e = by (is_among ids a) refl e (missing_before rest c h.1)
    where
      by : (test : Bool) → is_among ids a ≡ test → cond test (first_missing ids rest) (Some a) ≡ Some c
          → (first_missing ids rest ≡ Some c → with_each (terms_of trees rest) (with_subterms (tree_at trees c) terms) ≡ with_each (terms_of trees rest) terms)
          → with_each (terms_of trees (a ∷ rest)) (with_subterms (tree_at trees c) terms) ≡ with_each (terms_of trees (a ∷ rest)) terms
      by true here f later =
          later_before (tree_at trees a) (tree_at trees c) (terms_of trees rest) terms (closed_of trees ids order) (is_in a h.0 here)
          (more (tree_at trees c) (tree_at trees a) terms (is_in a h.0 here)) (later f)
      by false here f later =
          subst (λ k. with_each (terms_of trees (a ∷ rest)) (with_subterms (tree_at trees k) terms) ≡ with_each (terms_of trees (a ∷ rest)) terms)
          (same_Some a c f) (one_before (tree_at trees a) (terms_of trees rest) terms (closed_of trees ids order))

-- ---- one more id

among-more : (ids : List ℕ) (a k : ℕ) → is_among (ids ++ a ∷ []) k ≡ (is_among ids k || (nat_eq k a || false))
among-more ids a k = list_any-append (nat_eq k) ids (a ∷ [])

among-there : (ids : List ℕ) (a : ℕ) → is_among (ids ++ a ∷ []) a ≡ true
among-there ids a = among-more ids a a ∙ by (is_among ids a) (nat_eq a a) (search arith)
  where
    by : (p q : Bool) → q ≡ true → (p || (q || false)) ≡ true
    by true q e = refl
    by false q e = ap (λ b. b || false) e

among-other : (ids : List ℕ) (a k : ℕ) → k ≢ a → is_among (ids ++ a ∷ []) k ≡ is_among ids k
among-other ids a k other = among-more ids a k ∙ by (is_among ids k) (nat_eq k a) (ne_eqb k a other)
  where
    by : (p q : Bool) → q ≡ false → (p || (q || false)) ≡ p
    by true q e = refl
    by false q e = ap (λ b. b || false) e

-- ---- steps

-- a node of the one at hand
pub record IsAt (trees : List Term) (at : ℕ) (node : TermNode) : Type 0 where
  pub before : IsNode at node
  pub holds : Holds trees at (build trees node)

module _ (trees : List Term) (apart : AreDistinct trees) (start : ℕ) (below : start < length trees) (old ids waiting : List ℕ) (at : ℕ)
    (walk : IsWalk trees start old ids waiting at) (node : TermNode) (node_at : IsAt trees at node) where
  at_start : at ≤ start
  at_start = let less = below_bound ids (start + 1) waiting at walk.waits in omega arith

  pub at_within : at < length trees
  at_within = slice_get_within trees at (build trees node) node_at.holds

  abbrev args : List ℕ
  args = arguments_of node

  here : tree_at trees at ≡ build trees node
  here = get_or_from_slice_get trees at (build trees node) (tree.Leaf (atom.Truth false)) node_at.holds

  args_before : AreWithin at args
  args_before = arguments_within at node node_at.before

  args_within : AreWithin (length trees) args
  unfolding AreWithin
  args_within = wider args args_before
    where
      wider : (xs : List ℕ) → AreWithin at xs → AreWithin (length trees) xs
      wider [] h = tt
      wider (x ∷ xs) h = let less : x < at = h.0 in (omega (arith, at_within), wider xs h.1)

  args_are : arguments (tree_at trees at) ≡ terms_of trees args
  args_are = ap arguments here ∙ arguments-build trees node

  with_at : (xs : List Term) → with_subterms (tree_at trees at) xs ≡ with_term (tree_at trees at) (with_each (terms_of trees args) xs)
  with_at xs = by_arguments (tree_at trees at) xs ∙ ap (λ l. with_term (tree_at trees at) (with_each l xs)) args_are

  abbrev terms_now : List Term
  terms_now = terms_of trees ids

  -- an argument is missing: the one at hand waits
  module _ (c : ℕ) (missing : first_missing ids args ≡ Some c) where
    swapped : with_subterms (tree_at trees at) (with_subterms (tree_at trees c) terms_now) ≡ with_subterms (tree_at trees at) terms_now
    swapped =
        with_at (with_subterms (tree_at trees c) terms_now) ∙ ap (with_term (tree_at trees at)) (missing_before trees apart ids walk.order args c args_within missing)
        ∙ sym (with_at terms_now)

    deeper : (ws : List ℕ) → with_waiting trees (ws ++ at ∷ []) c terms_now ≡ with_waiting trees ws at terms_now
    unfolding with_waiting
    deeper [] = swapped
    deeper (w ∷ ws) = ap (with_subterms (tree_at trees w)) (deeper ws)

    pub waited : IsWalk trees start old ids (waiting ++ at ∷ []) c
    waited =
        let is = missing_is ids args at c args_before missing in
        record {
          order = walk.order;
          begins = walk.begins;
          waits = Waits-push ids (start + 1) waiting at c walk.waits is.0 is.1;
          whole = walk.whole ∙ sym (deeper waiting);
        }

    pub waited_less : work ids start c < work ids start at
    waited_less = let is = missing_is ids args at c args_before missing in let less : c < at = is.0 in omega arith

  -- none is missing: the one at hand is added
  module _ (none : first_missing ids args ≡ None) where
    new_one : is_among ids at ≡ false
    new_one = has_none ids (start + 1) waiting at walk.waits

    added : insert_key nat_eq ids at ≡ ids ++ at ∷ []
    added = ap (λ b. cond b ids (ids ++ at ∷ [])) new_one

    args_there : AllIn (arguments (tree_at trees at)) terms_now
    args_there = subst (λ l. AllIn l terms_now) (sym args_are) (all_there trees apart ids walk.order args args_within none)

    terms_then : terms_of trees (ids ++ at ∷ []) ≡ terms_now ++ tree_at trees at ∷ []
    terms_then = map-append (tree_at trees) ids (at ∷ [])

    is_added : with_subterms (tree_at trees at) terms_now ≡ terms_of trees (ids ++ at ∷ [])
    is_added =
        by_arguments (tree_at trees at) terms_now
        ∙ ap (with_term (tree_at trees at)) (each_there (arguments (tree_at trees at)) terms_now (closed_of trees ids walk.order) args_there)
        ∙ with_term-out (tree_at trees at) terms_now (sym (any_is trees apart at ids at_within (within_of trees [] ids walk.order)) ∙ new_one)
        ∙ sym terms_then

    pub order_then : IsOrder trees (ids ++ at ∷ [])
    order_then = push trees [] ids at walk.order at_within (in_all (arguments (tree_at trees at)) terms_now args_there)

    pub begins_then : Begins old (ids ++ at ∷ [])
    begins_then = (walk.begins.0 ++ at ∷ [], ap (λ l. l ++ at ∷ []) walk.begins.1 ∙ append_assoc old walk.begins.0 (at ∷ []))

    pub whole_then : waiting ≡ [] → AddsSubterms trees start old (ids ++ at ∷ [])
    unfolding with_waiting
    whole_then e = sym (walk.whole ∙ ap (λ ws. with_waiting trees ws at terms_now) e ∙ alone)
      where
        alone : with_waiting trees [] at terms_now ≡ terms_of trees (ids ++ at ∷ [])
        alone = is_added

    module _ (before : List ℕ) (next : ℕ) (last : waiting ≡ before ++ next ∷ []) where
      shallower : (ws : List ℕ) → with_waiting trees (ws ++ next ∷ []) at terms_now ≡ with_waiting trees ws next (terms_of trees (ids ++ at ∷ []))
      unfolding with_waiting
      shallower [] = ap (with_subterms (tree_at trees next)) is_added
      shallower (w ∷ ws) = ap (with_subterms (tree_at trees w)) (shallower ws)

      waits_then : Waits (ids ++ at ∷ []) (start + 1) before next
      waits_then =
          Waits-pop ids (ids ++ at ∷ []) (start + 1) before next at (λ k less. among-other ids at k (λ (e : k ≡ at). omega (arith, e, less)))
          (subst (λ ws. Waits ids (start + 1) ws at) last walk.waits)

      pub popped : IsWalk trees start old (ids ++ at ∷ []) before next
      popped = record {
        order = order_then;
        begins = begins_then;
        waits = waits_then;
        whole = walk.whole ∙ ap (λ ws. with_waiting trees ws at terms_now) last ∙ shallower before;
      }

      pub popped_less : work (ids ++ at ∷ []) start next < work ids start at
      popped_less =
          less_by_one (left (ids ++ at ∷ []) (start + 1)) (left ids (start + 1)) (start + 1) next at
          (left-made ids (ids ++ at ∷ []) (start + 1) at (omega (arith, at_start)) new_one (among-there ids at) (among-other ids at))
          (below_bound (ids ++ at ∷ []) (start + 1) before next waits_then)

-- ---- what the code's steps come to

empty : (xs : List ℕ) → length xs ≡ 0 → xs ≡ []
empty [] e = refl
empty (x ∷ xs) e = absurd (omega (arith, e))

pub walk_start : (trees : List Term) (id : ℕ) (ids waiting : List ℕ) → IsOrder trees ids → waiting ≡ [] → is_among ids id ≡ false → IsWalk trees id ids ids waiting id
unfolding Waits with_waiting
walk_start trees id ids waiting order none new =
    subst (λ ws. IsWalk trees id ids ids ws id) (sym none)
    (record { order = order; begins = ([], sym (append-nil ids)); waits = (omega arith, new); whole = refl })

pub walk_within : (trees : List Term) (start : ℕ) (old ids waiting : List ℕ) (at : ℕ) → start < length trees → IsWalk trees start old ids waiting at → at < length trees
walk_within trees start old ids waiting at below walk = let less = below_bound ids (start + 1) waiting at walk.waits in omega (arith, less, below)

pub step_down : (trees : List Term) → AreDistinct trees → (ids waiting new : List ℕ) (at c : ℕ) (node : TermNode) → IsNode at node → Holds trees at (build trees node)
    → Some c ≡ first_missing ids (arguments_of node) → new ≡ waiting ++ at ∷ [] → (start : ℕ) (old : List ℕ) → start < length trees
    → IsWalk trees start old ids waiting at → IsStep trees start old ids ids new at (Some c)
step_down trees apart ids waiting new at c node before holds missing items start old below walk =
    let node_at : IsAt trees at node = record { before = before; holds = holds } in (
      subst (λ ws. IsWalk trees start old ids ws c) (sym items) (waited trees apart start below old ids waiting at walk node node_at c (sym missing)),
      waited_less trees apart start below old ids waiting at walk node node_at c (sym missing),
    )

pub step_up : (trees : List Term) → AreDistinct trees → (ids keys waiting rest : List ℕ) (at : ℕ) (node : TermNode) → IsNode at node → Holds trees at (build trees node)
    → None ≡ first_missing ids (arguments_of node) → keys ≡ insert_key nat_eq ids at → (last : Option ℕ) → waiting ≡ rest ++ option_to_list last
    → (n m : ℕ) → length waiting ≡ n → MatchOption last ((n ≡ 0) × (m ≡ 0)) (λ _. m + 1 ≡ n) → (start : ℕ) (old : List ℕ) → start < length trees → IsWalk trees start old ids waiting at → IsStep trees start old ids keys rest at last
step_up trees apart ids keys waiting rest at node before holds none keys_are last items n m count cases start old below walk = by last items cases
  where
    node_at : IsAt trees at node
    node_at = record { before = before; holds = holds }

    keys_then : keys ≡ ids ++ at ∷ []
    keys_then = keys_are ∙ added trees apart start below old ids waiting at walk node node_at (sym none)

    by : (o : Option ℕ) → waiting ≡ rest ++ option_to_list o → MatchOption o ((n ≡ 0) × (m ≡ 0)) (λ _. m + 1 ≡ n)
        → IsStep trees start old ids keys rest at o
    by (Some next) e c =
        subst (λ ks. IsStep trees start old ids ks rest at (Some next)) (sym keys_then) (
          popped trees apart start below old ids waiting at walk node node_at (sym none) rest next e,
          popped_less trees apart start below old ids waiting at walk node node_at (sym none) rest next e,
        )
    by None e c =
        subst (λ ks. IsStep trees start old ids ks rest at None) (sym keys_then) (
          whole_then trees apart start below old ids waiting at walk node node_at (sym none) (empty waiting (count ∙ c.0)),
          order_then trees apart start below old ids waiting at walk node node_at (sym none),
          begins_then trees apart start below old ids waiting at walk node node_at (sym none),
        )

-- a term that is there adds nothing
pub already : (trees : List Term) → AreDistinct trees → (ids : List ℕ) (id : ℕ) → IsOrder trees ids → id < length trees → is_among ids id ≡ true → AddsSubterms trees id ids ids
already trees apart ids id order below here = sym (there_same (tree_at trees id) (terms_of trees ids) (closed_of trees ids order) (is_in trees apart ids order id below here))

pub begins_itself : (ids : List ℕ) → Begins ids ids
begins_itself ids = ([], sym (append-nil ids))
