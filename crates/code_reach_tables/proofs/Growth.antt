-- The trees of a list of nodes, as it grows.
use Rattle.std.proofs.Common.{◌≡◌, ℕ, zero, suc, ◌+◌, ◌<◌, ◌≤◌, Bool, true, false, cond, List, [], ◌∷◌, ◌++◌, length, get_or, Some, refl, sym, ap, ◌∙◌, subst, arith, append_assoc, length-append, append-nil}
use Rattle.std.specs.Prelude.{slice_get}
use Rattle.std.specs.List.{IsDistinct, AllByRecursion, list_any}
use Rattle.std.proofs.Math.ListN.{get_or-append}
use Rattle.std.proofs.lemmas.Option.{slice_get-get_or, slice_get_within, get_or_from_slice_get, same_Some}
use Rattle.code_reach_spec.specs.RunUp as tree
use Rattle.code_reach_spec.specs.RunUp.{Symbolic}
use Rattle.code_reach_tables.specs.declared.nodes.Node.{Node}
use Rattle.code_reach_tables.specs.declared.nodes.Node.TheVariants.{Constant, Initial, Unknown, Sum, Difference, Shifted, Masked}
use Rattle.code_reach_tables.specs.Nodes.{IsNode, tree_at, build, Holds, Extends, AreDistinct, grown, trees_of, AreNodes, AreShared, Gives}

-- ---- lists

pub slice_get-front : {X : Type 0} → (xs ys : List X) (i : ℕ) (x : X) → slice_get xs i ≡ Some x → slice_get (xs ++ ys) i ≡ Some x
slice_get-front [] ys i x e = absurd (cc)
slice_get-front (y ∷ xs) ys zero x e = e
slice_get-front (y ∷ xs) ys (suc i) x e = slice_get-front xs ys i x e

pub slice_get-seam : {X : Type 0} → (xs ys : List X) (x : X) → slice_get (xs ++ x ∷ ys) (length xs) ≡ Some x
slice_get-seam [] ys x = refl
slice_get-seam (y ∷ xs) ys x = slice_get-seam xs ys x

-- an index below the length holds something
pub held : (trees : List Symbolic) (i : ℕ) → i < length trees → Holds trees i (tree_at trees i)
held trees i below = slice_get-get_or trees i (tree.Constant 0) below

-- ---- nodes over a longer list

pub tree_at-front : (trees more : List Symbolic) (i : ℕ) → i < length trees → tree_at (trees ++ more) i ≡ tree_at trees i
tree_at-front trees more i below = get_or-append trees more (tree.Constant 0) i below

pub build-front : (trees more : List Symbolic) (node : Node) → IsNode (length trees) node → build (trees ++ more) node ≡ build trees node
build-front trees more (Constant value) h = refl
build-front trees more (Initial r) h = refl
build-front trees more (Unknown address) h = refl
build-front trees more (Sum a b) h =
    let ea = tree_at-front trees more a h.0 in
    let eb = tree_at-front trees more b h.1 in
    cc
build-front trees more (Difference a b) h =
    let ea = tree_at-front trees more a h.0 in
    let eb = tree_at-front trees more b h.1 in
    cc
build-front trees more (Shifted a amount) h = let ea = tree_at-front trees more a h in cc
build-front trees more (Masked a mask) h = let ea = tree_at-front trees more a h in cc

-- ---- growth

pub length-grown : (trees : List Symbolic) (nodes : List Node) → length (grown trees nodes) ≡ length trees + length nodes
length-grown trees [] = omega arith
length-grown trees (node ∷ rest) = omega (arith, length-grown (trees ++ build trees node ∷ []) rest, length-append trees (build trees node ∷ []))

pub grown-append : (trees : List Symbolic) (nodes more : List Node) → grown trees (nodes ++ more) ≡ grown (grown trees nodes) more
grown-append trees [] more = refl
grown-append trees (node ∷ rest) more = grown-append (trees ++ build trees node ∷ []) rest more

pub grown-extends : (trees : List Symbolic) (nodes : List Node) → Extends trees (grown trees nodes)
grown-extends trees [] = ([], sym (append-nil trees))
grown-extends trees (node ∷ rest) =
    let later = grown-extends (trees ++ build trees node ∷ []) rest in
    (build trees node ∷ later.0, later.1 ∙ append_assoc trees (build trees node ∷ []) later.0)

-- the node at an index has its arguments before it, and its tree is the one there
pub record IsNodeAt (trees : List Symbolic) (place : ℕ) (node : Node) : Type 0 where
  pub before : IsNode place node
  pub holds : Holds trees place (build trees node)

first_is_at : (trees : List Symbolic) (first : Node) (rest : List Node) → IsNode (length trees) first → IsNodeAt (grown trees (first ∷ rest)) (length trees) first
first_is_at trees first rest h =
    let whole = grown-extends trees (first ∷ rest) in
    let later = grown-extends (trees ++ build trees first ∷ []) rest in
    let same : build (grown trees (first ∷ rest)) first ≡ build trees first = ap (λ g. build g first) whole.1 ∙ build-front trees whole.0 first h in
    let there : Holds ((trees ++ build trees first ∷ []) ++ later.0) (length trees) (build trees first) =
    slice_get-front (trees ++ build trees first ∷ []) later.0 (length trees) (build trees first) (slice_get-seam trees [] (build trees first)) in
    let found : Holds (grown trees (first ∷ rest)) (length trees) (build trees first) = subst (λ g. Holds g (length trees) (build trees first)) (sym later.1) there in
    record { before = h; holds = found ∙ ap Some (sym same) }

-- each node is at its index, after the trees so far
pub node_is_at : (trees : List Symbolic) (nodes : List Node) (k place : ℕ) (node : Node)
    → AreNodes (length trees) nodes → slice_get nodes k ≡ Some node → place ≡ length trees + k → IsNodeAt (grown trees nodes) place node
node_is_at trees [] k place node h e at = absurd (cc)
node_is_at trees (first ∷ rest) zero place node h e at =
    let here : length trees ≡ place = omega arith in
    subst (λ p. IsNodeAt (grown trees (first ∷ rest)) p node) here
    (subst (λ n. IsNodeAt (grown trees (first ∷ rest)) (length trees) n) (same_Some first node e) (first_is_at trees first rest h.0))
node_is_at trees (first ∷ rest) (suc k) place node h e at =
    let longer : length trees + 1 ≡ length (trees ++ build trees first ∷ []) = omega (arith, length-append trees (build trees first ∷ [])) in
    node_is_at (trees ++ build trees first ∷ []) rest k place node (subst (λ n. AreNodes n rest) longer h.1) e (omega (arith, longer))

-- one more node at the end
pub AreNodes-push : (n : ℕ) (nodes : List Node) (node : Node) → AreNodes n nodes → IsNode (n + length nodes) node → AreNodes n (nodes ++ node ∷ [])
AreNodes-push n [] node h last = let e : n + 0 ≡ n = omega arith in (subst (λ m. IsNode m node) e last, tt)
AreNodes-push n (first ∷ rest) node h last =
    let e : n + suc (length rest) ≡ n + 1 + length rest = omega arith in
    (h.0, AreNodes-push (n + 1) rest node h.1 (subst (λ m. IsNode m node) e last))

-- ---- equal trees have one index

module _ (eq : Node → Node → Bool) (itself : (n : Node) → eq n n ≡ true) where
  not_again : (node : Node) (nodes : List Node) (j : ℕ) → AllByRecursion (λ y. eq node y ≡ false) nodes → slice_get nodes j ≡ Some node → ⊥
  not_again node [] j h e = cc
  not_again node (first ∷ rest) zero h e =
      let is_first : first ≡ node = same_Some first node e in
      let different : eq node node ≡ false = subst (λ y. eq node y ≡ false) is_first h.0 in
      cc (itself node, different)
  not_again node (first ∷ rest) (suc j) h e = not_again node rest j h.1 e

  one_place : (nodes : List Node) (i j : ℕ) (node : Node) → IsDistinct eq nodes → slice_get nodes i ≡ Some node → slice_get nodes j ≡ Some node → i ≡ j
  unfolding IsDistinct
  one_place [] i j node h at_i at_j = absurd (cc)
  one_place (first ∷ rest) zero zero node h at_i at_j = refl
  one_place (first ∷ rest) zero (suc j) node h at_i at_j =
      let is_first : first ≡ node = same_Some first node at_i in
      absurd (not_again first rest j h.0 (at_j ∙ ap Some (sym is_first)))
  one_place (first ∷ rest) (suc i) zero node h at_i at_j =
      let is_first : first ≡ node = same_Some first node at_j in
      absurd (not_again first rest i h.0 (at_i ∙ ap Some (sym is_first)))
  one_place (first ∷ rest) (suc i) (suc j) node h at_i at_j = ap suc (one_place rest i j node h.1 at_i at_j)

module _ (trees : List Symbolic) where
  -- nodes that build one tree are one, where that is known of their arguments
  same_node : (i j : ℕ) → ((a b : ℕ) → a < i → b < j → tree_at trees a ≡ tree_at trees b → a ≡ b) → (m n : Node) → IsNode i m → IsNode j n → build trees m ≡ build trees n → m ≡ n
  same_node i j args (Constant x) (Constant y) hm hn e = cc
  same_node i j args (Initial r) (Initial s) hm hn e = cc
  same_node i j args (Unknown p) (Unknown q) hm hn e = cc
  same_node i j args (Sum a1 a2) (Sum b1 b2) hm hn e =
      let e1 : a1 ≡ b1 = args a1 b1 hm.0 hn.0 (cc) in
      let e2 : a2 ≡ b2 = args a2 b2 hm.1 hn.1 (cc) in
      cc
  same_node i j args (Difference a1 a2) (Difference b1 b2) hm hn e =
      let e1 : a1 ≡ b1 = args a1 b1 hm.0 hn.0 (cc) in
      let e2 : a2 ≡ b2 = args a2 b2 hm.1 hn.1 (cc) in
      cc
  same_node i j args (Shifted a k) (Shifted b l) hm hn e =
      let one : a ≡ b = args a b hm hn (cc) in
      cc
  same_node i j args (Masked a k) (Masked b l) hm hn e =
      let one : a ≡ b = args a b hm hn (cc) in
      cc
  same_node i j args m n hm hn e = absurd (cc)

module _ (nodes : List Node) (sound : AreNodes 0 nodes) where
  length_grown : length (grown [] nodes) ≡ length nodes
  length_grown = omega (arith, length-grown [] nodes)

  -- the node at an index below the length
  pub node_at : (i : ℕ) → i < length (grown [] nodes) → (node : Node) × (slice_get nodes i ≡ Some node) × IsNodeAt (grown [] nodes) i node
  node_at i below =
      let within : i < length nodes = omega (arith, length_grown) in
      let node : Node = get_or nodes i (Constant 0) in
      let e : slice_get nodes i ≡ Some node = slice_get-get_or nodes i (Constant 0) within in
      (node, e, node_is_at [] nodes i i node sound e (omega arith))

  module _ (eq : Node → Node → Bool) (itself : (n : Node) → eq n n ≡ true) (distinct : IsDistinct eq nodes) where
    one_tree : (n i j : ℕ) → i < n → i < length (grown [] nodes) → j < length (grown [] nodes) → tree_at (grown [] nodes) i ≡ tree_at (grown [] nodes) j → i ≡ j
    one_tree zero i j below within_i within_j e = absurd (omega arith)
    one_tree (suc n) i j below within_i within_j e =
        let at_i = node_at i within_i in
        let at_j = node_at j within_j in
        let tree_i : tree_at (grown [] nodes) i ≡ build (grown [] nodes) at_i.0 = get_or_from_slice_get (grown [] nodes) i (build (grown [] nodes) at_i.0) (tree.Constant 0) at_i.2.holds in
        let tree_j : tree_at (grown [] nodes) j ≡ build (grown [] nodes) at_j.0 = get_or_from_slice_get (grown [] nodes) j (build (grown [] nodes) at_j.0) (tree.Constant 0) at_j.2.holds in
        let one : at_i.0 ≡ at_j.0 =
        same_node (grown [] nodes) i j (λ a b less_a less_b same. one_tree n a b (omega arith) (omega arith) (omega arith) same) at_i.0 at_j.0 at_i.2.before at_j.2.before
        (sym tree_i ∙ e ∙ tree_j) in
        one_place eq itself nodes i j at_i.0 distinct at_i.1 (at_j.1 ∙ ap Some (sym one))

    pub trees_distinct : AreDistinct (grown [] nodes)
    trees_distinct i j t hi hj =
        let within_i : i < length (grown [] nodes) = slice_get_within (grown [] nodes) i t hi in
        let within_j : j < length (grown [] nodes) = slice_get_within (grown [] nodes) j t hj in
        let tree_i = get_or_from_slice_get (grown [] nodes) i t (tree.Constant 0) hi in
        let tree_j = get_or_from_slice_get (grown [] nodes) j t (tree.Constant 0) hj in
        one_tree (suc i) i j (omega arith) within_i within_j (tree_i ∙ sym tree_j)

-- ---- one node inserted

pub record IsInserted (old new : List Node) (node : Node) : Type 0 where
  pub nodes : AreNodes 0 new
  pub extends : Extends (grown [] old) (grown [] new)

pub inserted : (test : Bool) (old new : List Node) (node : Node) → new ≡ cond test old (old ++ node ∷ []) → AreNodes 0 old → IsNode (length (grown [] old)) node → IsInserted old new node
inserted true old new node e h fits = record { nodes = subst (AreNodes 0) (sym e) h; extends = ([], ap (grown []) e ∙ sym (append-nil (grown [] old))) }
inserted false old new node e h fits =
    let count : length (grown [] old) ≡ 0 + length old = omega (arith, length-grown [] old) in
    let more = grown-extends (grown [] old) (node ∷ []) in
    record {
      nodes = subst (AreNodes 0) (sym e) (AreNodes-push 0 old node h (subst (λ n. IsNode n node) count fits));
      extends = (more.0, ap (grown []) e ∙ grown-append [] old (node ∷ []) ∙ more.1);
    }

-- the node at its index among those after builds what it builds among those before
pub stored_tree : (old new : List Node) (node : Node) (id : ℕ) → IsInserted old new node → IsNode (length (grown [] old)) node → slice_get new id ≡ Some node
    → Holds (grown [] new) id (build (grown [] old) node)
stored_tree old new node id made fits e =
    let is_at = node_is_at [] new id id node made.nodes e (omega arith) in
    let same : build (grown [] new) node ≡ build (grown [] old) node = ap (λ g. build g node) made.extends.1 ∙ build-front (grown [] old) made.extends.0 node fits in
    is_at.holds ∙ ap Some same

-- the node has an index among the nodes after
pub given : (eq : Node → Node → Bool) (itself : (n : Node) → eq n n ≡ true) (test : Bool) (old new : List Node) (node stored : Node) (id : ℕ) → AreShared old
    → IsNode (length old) node → new ≡ cond test old (old ++ node ∷ []) → IsDistinct eq new → slice_get new id ≡ Some stored → node ≡ stored
    → Gives old new id (build (trees_of old) node)
given eq itself test old new node stored id shared fits e distinct at same =
    let count : length old ≡ length (trees_of old) = omega (arith, length-grown [] old) in
    let fits_trees : IsNode (length (trees_of old)) node = subst (λ n. IsNode n node) count fits in
    let made = inserted test old new node e shared.ordered fits_trees in
    record {
      shared = record { ordered = made.nodes; distinct = trees_distinct new made.nodes eq itself distinct };
      extends = made.extends;
      holds = stored_tree old new node id made fits_trees (at ∙ ap Some (sym same));
    }

-- ---- one after the other

pub held-later : (old new : List Symbolic) (i : ℕ) (t : Symbolic) → Extends old new → Holds old i t → Holds new i t
held-later old new i t extends holds = ap (λ (ts : List Symbolic). slice_get ts i) extends.1 ∙ slice_get-front old extends.0 i t holds

pub extends-both : (a b c : List Symbolic) → Extends a b → Extends b c → Extends a c
extends-both a b c first second = (
  first.0 ++ second.0,
  second.1 ∙ (ap (λ (ts : List Symbolic). ts ++ second.0) first.1 ∙ append_assoc a first.0 second.0),
)

pub gives-then : (old middle new : List Node) (i j : ℕ) (s t : Symbolic) → Gives old middle i s → Gives middle new j t → Gives old new j t
gives-then old middle new i j s t first second = record {
  shared = second.shared;
  extends = extends-both (trees_of old) (trees_of middle) (trees_of new) first.extends second.extends;
  holds = second.holds;
}

pub nothing-given : (old : List Node) (i : ℕ) → AreShared old → i < length (trees_of old) → Gives old old i (tree_at (trees_of old) i)
nothing-given old i shared below = record { shared = shared; extends = ([], sym (append-nil (trees_of old))); holds = held (trees_of old) i below }

pub tree-held : (ts : List Symbolic) (i : ℕ) (t : Symbolic) → Holds ts i t → tree_at ts i ≡ t
tree-held ts i t holds = get_or_from_slice_get ts i t (tree.Constant 0) holds

pub below-held : (ts : List Symbolic) (i : ℕ) (t : Symbolic) → Holds ts i t → i < length ts
below-held ts i t holds = slice_get_within ts i t holds

pub trees-long : (nodes : List Node) → length (trees_of nodes) ≡ length nodes
trees-long nodes = omega (arith, length-grown [] nodes)

pub later-below : (old new : List Symbolic) (i : ℕ) → Extends old new → i < length old → i < length new
later-below old new i extends below = omega (arith, below, ap (λ (ts : List Symbolic). length ts) extends.1, length-append old extends.0)

pub tree-later : (old new : List Symbolic) (i : ℕ) → Extends old new → i < length old → tree_at new i ≡ tree_at old i
tree-later old new i extends below = ap (λ (ts : List Symbolic). tree_at ts i) extends.1 ∙ tree_at-front old extends.0 i below
