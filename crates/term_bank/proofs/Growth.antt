-- The trees of a list of nodes, as it grows.
use Rattle.std.proofs.Common.{◌≡◌, ℕ, zero, suc, ◌+◌, ◌<◌, ◌≤◌, Bool, true, false, cond, List, [], ◌∷◌, ◌++◌, length, get_or, Some, refl, sym, ap, ◌∙◌, subst, arith, append_assoc, length-append, append-nil}
use Rattle.std.specs.Prelude.{slice_get}
use Rattle.std.specs.List.{IsDistinct, AllByRecursion, list_any}
use Rattle.std.proofs.Math.ListN.{get_or-append}
use Rattle.std.proofs.lemmas.List.Elements.{All-from_get_or}
use Rattle.std.proofs.lemmas.List.Folds.{list_any_at, list_any_none}
use Rattle.std.proofs.lemmas.Option.{slice_get-get_or, slice_get_within, get_or_from_slice_get, same_Some}
use Rattle.term_core_spec.specs.declared.Atom.TheVariants as atom
use Rattle.term_core_spec.specs.Term as tree
use Rattle.term_core_spec.specs.Term.{Term}
use Rattle.term_core_spec.specs.Same.{same_term}
use Rattle.term_core_spec.proofs.Same.{same_is, same_itself}
use Rattle.term_bank.specs.declared.node.TermNode.{TermNode}
use Rattle.term_bank.specs.declared.node.TermNode.TheVariants.{Leaf, Unary, Binary, Ternary, Quaternary, Octonary}
use Rattle.term_bank.specs.Nodes.{IsNode, tree_at, build, Holds, with_tree, Extends, AreDistinct}
use Rattle.term_bank.specs.Trees.{grown, AreNodes}

-- ---- lists

pub slice_get-front : {X : Type 0} → (xs ys : List X) (i : ℕ) (x : X) → slice_get xs i ≡ Some x → slice_get (xs ++ ys) i ≡ Some x
slice_get-front [] ys i x e = absurd (cc)
slice_get-front (y ∷ xs) ys zero x e = e
slice_get-front (y ∷ xs) ys (suc i) x e = slice_get-front xs ys i x e

pub slice_get-seam : {X : Type 0} → (xs ys : List X) (x : X) → slice_get (xs ++ x ∷ ys) (length xs) ≡ Some x
slice_get-seam [] ys x = refl
slice_get-seam (y ∷ xs) ys x = slice_get-seam xs ys x

-- an index below the length holds something
pub held : (trees : List Term) (i : ℕ) → i < length trees → Holds trees i (tree_at trees i)
held trees i below = slice_get-get_or trees i (tree.Leaf (atom.Truth false)) below

-- ---- nodes over a longer list

pub tree_at-front : (trees more : List Term) (i : ℕ) → i < length trees → tree_at (trees ++ more) i ≡ tree_at trees i
tree_at-front trees more i below = get_or-append trees more (tree.Leaf (atom.Truth false)) i below

pub build-front : (trees more : List Term) (node : TermNode) → IsNode (length trees) node → build (trees ++ more) node ≡ build trees node
build-front trees more (Leaf leaf) h = refl
build-front trees more (Unary operator a) h = let ea = tree_at-front trees more a h in cc
build-front trees more (Binary operator a b) h =
    let ea = tree_at-front trees more a h.0 in
    let eb = tree_at-front trees more b h.1 in
    cc
build-front trees more (Ternary operator a b c) h =
    let ea = tree_at-front trees more a h.0 in
    let eb = tree_at-front trees more b h.1 in
    let ec = tree_at-front trees more c h.2 in
    cc
build-front trees more (Quaternary operator a b c d) h =
    let ea = tree_at-front trees more a h.0 in
    let eb = tree_at-front trees more b h.1 in
    let ec = tree_at-front trees more c h.2 in
    let ed = tree_at-front trees more d h.3 in
    cc
build-front trees more (Octonary a b c d e f g i) h =
    let ea = tree_at-front trees more a h.0 in
    let eb = tree_at-front trees more b h.1 in
    let ec = tree_at-front trees more c h.2 in
    let ed = tree_at-front trees more d h.3 in
    let ee = tree_at-front trees more e h.4 in
    let ef = tree_at-front trees more f h.5 in
    let eg = tree_at-front trees more g h.6 in
    let ei = tree_at-front trees more i h.7 in
    cc

-- ---- growth

pub length-grown : (trees : List Term) (nodes : List TermNode) → length (grown trees nodes) ≡ length trees + length nodes
length-grown trees [] = omega arith
length-grown trees (node ∷ rest) = omega (arith, length-grown (trees ++ build trees node ∷ []) rest, length-append trees (build trees node ∷ []))

pub grown-append : (trees : List Term) (nodes more : List TermNode) → grown trees (nodes ++ more) ≡ grown (grown trees nodes) more
grown-append trees [] more = refl
grown-append trees (node ∷ rest) more = grown-append (trees ++ build trees node ∷ []) rest more

pub grown-extends : (trees : List Term) (nodes : List TermNode) → Extends trees (grown trees nodes)
grown-extends trees [] = ([], sym (append-nil trees))
grown-extends trees (node ∷ rest) =
    let later = grown-extends (trees ++ build trees node ∷ []) rest in
    (build trees node ∷ later.0, later.1 ∙ append_assoc trees (build trees node ∷ []) later.0)

-- the node at an index has its arguments before it, and its tree is the one there
pub record IsNodeAt (trees : List Term) (place : ℕ) (node : TermNode) : Type 0 where
  pub before : IsNode place node
  pub holds : Holds trees place (build trees node)

first_is_at : (trees : List Term) (first : TermNode) (rest : List TermNode) → IsNode (length trees) first → IsNodeAt (grown trees (first ∷ rest)) (length trees) first
first_is_at trees first rest h =
    let whole = grown-extends trees (first ∷ rest) in
    let later = grown-extends (trees ++ build trees first ∷ []) rest in
    let same : build (grown trees (first ∷ rest)) first ≡ build trees first = ap (λ g. build g first) whole.1 ∙ build-front trees whole.0 first h in
    let there : Holds ((trees ++ build trees first ∷ []) ++ later.0) (length trees) (build trees first) =
    slice_get-front (trees ++ build trees first ∷ []) later.0 (length trees) (build trees first) (slice_get-seam trees [] (build trees first)) in
    let found : Holds (grown trees (first ∷ rest)) (length trees) (build trees first) = subst (λ g. Holds g (length trees) (build trees first)) (sym later.1) there in
    record { before = h; holds = found ∙ ap Some (sym same) }

-- each node is at its index, after the trees so far
pub node_is_at : (trees : List Term) (nodes : List TermNode) (k place : ℕ) (node : TermNode)
    → AreNodes (length trees) nodes → slice_get nodes k ≡ Some node → place ≡ length trees + k → IsNodeAt (grown trees nodes) place node
node_is_at trees [] k place node h e at = absurd (cc)
node_is_at trees (first ∷ rest) zero place node h e at =
    let here : length trees ≡ place = omega arith in
    subst (λ p. IsNodeAt (grown trees (first ∷ rest)) p node) here
    (subst (λ n. IsNodeAt (grown trees (first ∷ rest)) (length trees) n) (same_Some first node e) (first_is_at trees first rest h.0))
node_is_at trees (first ∷ rest) (suc k) place node h e at =
    let longer : length trees + 1 ≡ length (trees ++ build trees first ∷ []) = omega (arith, length-append trees (build trees first ∷ [])) in
    node_is_at (trees ++ build trees first ∷ []) rest k place node (subst (λ n. AreNodes n rest) longer h.1) e (omega (arith, longer))

-- one more node at the end
pub AreNodes-push : (n : ℕ) (nodes : List TermNode) (node : TermNode) → AreNodes n nodes → IsNode (n + length nodes) node → AreNodes n (nodes ++ node ∷ [])
AreNodes-push n [] node h last = let e : n + 0 ≡ n = omega arith in (subst (λ m. IsNode m node) e last, tt)
AreNodes-push n (first ∷ rest) node h last =
    let e : n + suc (length rest) ≡ n + 1 + length rest = omega arith in
    (h.0, AreNodes-push (n + 1) rest node h.1 (subst (λ m. IsNode m node) e last))

-- ---- equal trees have one index

module _ (eq : TermNode → TermNode → Bool) (itself : (n : TermNode) → eq n n ≡ true) where
  not_again : (node : TermNode) (nodes : List TermNode) (j : ℕ) → AllByRecursion (λ y. eq node y ≡ false) nodes → slice_get nodes j ≡ Some node → ⊥
  not_again node [] j h e = cc
  not_again node (first ∷ rest) zero h e =
      let is_first : first ≡ node = same_Some first node e in
      let different : eq node node ≡ false = subst (λ y. eq node y ≡ false) is_first h.0 in
      cc (itself node, different)
  not_again node (first ∷ rest) (suc j) h e = not_again node rest j h.1 e

  one_place : (nodes : List TermNode) (i j : ℕ) (node : TermNode) → IsDistinct eq nodes → slice_get nodes i ≡ Some node → slice_get nodes j ≡ Some node → i ≡ j
  unfolding IsDistinct
  one_place [] i j node h at_i at_j = absurd (cc)
  one_place (first ∷ rest) zero zero node h at_i at_j = refl
  one_place (first ∷ rest) zero (suc j) node h at_i at_j =
      let is_first : first ≡ node = same_Some first node at_i in
      absurd (not_again first rest j h.0 (at_j ∙ ap Some (sym is_first)))
  one_place (first ∷ rest) (suc i) zero node h at_i at_j =
      let is_first : first ≡ node = same_Some first node at_j in
      absurd (not_again first rest i h.0 (at_i ∙ ap Some (sym is_first)))
  one_place (first ∷ rest) (suc i) (suc j) node h at_i at_j = ap suc (one_place rest i j node h.1 at_i at_j)

module _ (trees : List Term) where
  -- nodes that build one tree are one, where that is known of their arguments
  same_node : (i j : ℕ) → ((a b : ℕ) → a < i → b < j → tree_at trees a ≡ tree_at trees b → a ≡ b) → (m n : TermNode) → IsNode i m → IsNode j n → build trees m ≡ build trees n → m ≡ n
  same_node i j args (Leaf x) (Leaf y) hm hn e = cc
  same_node i j args (Unary o a) (Unary p b) hm hn e =
      let one : a ≡ b = args a b hm hn (cc) in
      cc
  same_node i j args (Binary o a1 a2) (Binary p b1 b2) hm hn e =
      let e1 : a1 ≡ b1 = args a1 b1 hm.0 hn.0 (cc) in
      let e2 : a2 ≡ b2 = args a2 b2 hm.1 hn.1 (cc) in
      cc
  same_node i j args (Ternary o a1 a2 a3) (Ternary p b1 b2 b3) hm hn e =
      let e1 : a1 ≡ b1 = args a1 b1 hm.0 hn.0 (cc) in
      let e2 : a2 ≡ b2 = args a2 b2 hm.1 hn.1 (cc) in
      let e3 : a3 ≡ b3 = args a3 b3 hm.2 hn.2 (cc) in
      cc
  same_node i j args (Quaternary o a1 a2 a3 a4) (Quaternary p b1 b2 b3 b4) hm hn e =
      let e1 : a1 ≡ b1 = args a1 b1 hm.0 hn.0 (cc) in
      let e2 : a2 ≡ b2 = args a2 b2 hm.1 hn.1 (cc) in
      let e3 : a3 ≡ b3 = args a3 b3 hm.2 hn.2 (cc) in
      let e4 : a4 ≡ b4 = args a4 b4 hm.3 hn.3 (cc) in
      cc
  same_node i j args (Octonary a1 a2 a3 a4 a5 a6 a7 a8) (Octonary b1 b2 b3 b4 b5 b6 b7 b8) hm hn e =
      let e1 : a1 ≡ b1 = args a1 b1 hm.0 hn.0 (cc) in
      let e2 : a2 ≡ b2 = args a2 b2 hm.1 hn.1 (cc) in
      let e3 : a3 ≡ b3 = args a3 b3 hm.2 hn.2 (cc) in
      let e4 : a4 ≡ b4 = args a4 b4 hm.3 hn.3 (cc) in
      let e5 : a5 ≡ b5 = args a5 b5 hm.4 hn.4 (cc) in
      let e6 : a6 ≡ b6 = args a6 b6 hm.5 hn.5 (cc) in
      let e7 : a7 ≡ b7 = args a7 b7 hm.6 hn.6 (cc) in
      let e8 : a8 ≡ b8 = args a8 b8 hm.7 hn.7 (cc) in
      cc
  same_node i j args m n hm hn e = absurd (cc)

module _ (nodes : List TermNode) (sound : AreNodes 0 nodes) where
  length_grown : length (grown [] nodes) ≡ length nodes
  length_grown = omega (arith, length-grown [] nodes)

  -- the node at an index below the length
  pub node_at : (i : ℕ) → i < length (grown [] nodes) → (node : TermNode) × (slice_get nodes i ≡ Some node) × IsNodeAt (grown [] nodes) i node
  node_at i below =
      let within : i < length nodes = omega (arith, length_grown) in
      let node : TermNode = get_or nodes i (Leaf (atom.Truth false)) in
      let e : slice_get nodes i ≡ Some node = slice_get-get_or nodes i (Leaf (atom.Truth false)) within in
      (node, e, node_is_at [] nodes i i node sound e (omega arith))

  module _ (eq : TermNode → TermNode → Bool) (itself : (n : TermNode) → eq n n ≡ true) (distinct : IsDistinct eq nodes) where
    one_tree : (n i j : ℕ) → i < n → i < length (grown [] nodes) → j < length (grown [] nodes) → tree_at (grown [] nodes) i ≡ tree_at (grown [] nodes) j → i ≡ j
    one_tree zero i j below within_i within_j e = absurd (omega arith)
    one_tree (suc n) i j below within_i within_j e =
        let at_i = node_at i within_i in
        let at_j = node_at j within_j in
        let tree_i : tree_at (grown [] nodes) i ≡ build (grown [] nodes) at_i.0 = get_or_from_slice_get (grown [] nodes) i (build (grown [] nodes) at_i.0) (tree.Leaf (atom.Truth false)) at_i.2.holds in
        let tree_j : tree_at (grown [] nodes) j ≡ build (grown [] nodes) at_j.0 = get_or_from_slice_get (grown [] nodes) j (build (grown [] nodes) at_j.0) (tree.Leaf (atom.Truth false)) at_j.2.holds in
        let one : at_i.0 ≡ at_j.0 =
        same_node (grown [] nodes) i j (λ a b less_a less_b same. one_tree n a b (omega arith) (omega arith) (omega arith) same) at_i.0 at_j.0 at_i.2.before at_j.2.before
        (sym tree_i ∙ e ∙ tree_j) in
        one_place eq itself nodes i j at_i.0 distinct at_i.1 (at_j.1 ∙ ap Some (sym one))

    pub trees_distinct : AreDistinct (grown [] nodes)
    trees_distinct i j t hi hj =
        let within_i : i < length (grown [] nodes) = slice_get_within (grown [] nodes) i t hi in
        let within_j : j < length (grown [] nodes) = slice_get_within (grown [] nodes) j t hj in
        let tree_i = get_or_from_slice_get (grown [] nodes) i t (tree.Leaf (atom.Truth false)) hi in
        let tree_j = get_or_from_slice_get (grown [] nodes) j t (tree.Leaf (atom.Truth false)) hj in
        one_tree (suc i) i j (omega arith) within_i within_j (tree_i ∙ sym tree_j)

-- ---- one node inserted

pub record IsInserted (old new : List TermNode) (node : TermNode) : Type 0 where
  pub nodes : AreNodes 0 new
  pub extends : Extends (grown [] old) (grown [] new)

pub inserted : (test : Bool) (old new : List TermNode) (node : TermNode) → new ≡ cond test old (old ++ node ∷ []) → AreNodes 0 old → IsNode (length (grown [] old)) node → IsInserted old new node
inserted true old new node e h fits = record { nodes = subst (AreNodes 0) (sym e) h; extends = ([], ap (grown []) e ∙ sym (append-nil (grown [] old))) }
inserted false old new node e h fits =
    let count : length (grown [] old) ≡ 0 + length old = omega (arith, length-grown [] old) in
    let more = grown-extends (grown [] old) (node ∷ []) in
    record {
      nodes = subst (AreNodes 0) (sym e) (AreNodes-push 0 old node h (subst (λ n. IsNode n node) count fits));
      extends = (more.0, ap (grown []) e ∙ grown-append [] old (node ∷ []) ∙ more.1);
    }

-- the node at its index among those after builds what it builds among those before
pub stored_tree : (old new : List TermNode) (node : TermNode) (id : ℕ) → IsInserted old new node → IsNode (length (grown [] old)) node → slice_get new id ≡ Some node
    → Holds (grown [] new) id (build (grown [] old) node)
stored_tree old new node id made fits e =
    let is_at = node_is_at [] new id id node made.nodes e (omega arith) in
    let same : build (grown [] new) node ≡ build (grown [] old) node = ap (λ g. build g node) made.extends.1 ∙ build-front (grown [] old) made.extends.0 node fits in
    is_at.holds ∙ ap Some same

-- what a bank holds after a node is inserted, its old trees being `trees`
pub record IsAdded (trees : List Term) (new : List TermNode) (node : TermNode) (id : ℕ) : Type 0 where
  pub nodes : AreNodes 0 new
  pub holds : Holds (grown [] new) id (build trees node)
  pub extends : Extends trees (grown [] new)

pub added : (test : Bool) (old new : List TermNode) (trees : List Term) (node stored : TermNode) (id : ℕ) → grown [] old ≡ trees → new ≡ cond test old (old ++ node ∷ []) → AreNodes 0 old
    → IsNode (length trees) node → slice_get new id ≡ Some stored → node ≡ stored → IsAdded trees new node id
added test old new trees node stored id view e h fits at same =
    let fits_old : IsNode (length (grown [] old)) node = subst (λ (t : List Term). IsNode (length t) node) (sym view) fits in
    let made = inserted test old new node e h fits_old in
    let there = stored_tree old new node id made fits_old (at ∙ ap Some (sym same)) in
    record {
      nodes = made.nodes;
      holds = subst (λ t. Holds (grown [] new) id (build t node)) view there;
      extends = subst (λ t. Extends t (grown [] new)) view made.extends;
    }

pub within_added : (trees : List Term) (id : ℕ) (t : Term) → Holds trees id t → id < length trees
within_added trees id t h = slice_get_within trees id t h

pub length-Extends : (old new : List Term) → Extends old new → length old ≤ length new
length-Extends old new e = omega (arith, ap length e.1, length-append old e.0)

-- ---- the tree of the node among those before

among : (trees : List Term) (t : Term) (i : ℕ) → Holds trees i t → list_any (same_term t) trees ≡ true
among trees t i at =
    let here : tree_at trees i ≡ t = get_or_from_slice_get trees i t (tree.Leaf (atom.Truth false)) at in
    list_any_at (same_term t) trees i (tree.Leaf (atom.Truth false)) (slice_get_within trees i t at) (ap (same_term t) here ∙ same_itself t)

absent : (trees : List Term) (t : Term) → AreDistinct (trees ++ t ∷ []) → list_any (same_term t) trees ≡ false
absent trees t distinct =
    list_any_none (same_term t) trees (All-from_get_or (λ x. same_term t x ≡ false) trees (tree.Leaf (atom.Truth false)) (λ i below. other i below (same_term t (tree_at trees i)) refl))
  where
    other : (i : ℕ) → i < length trees → (test : Bool) → same_term t (tree_at trees i) ≡ test → same_term t (tree_at trees i) ≡ false
    other i below false e = e
    other i below true e =
        let here : Holds trees i t = held trees i below ∙ ap Some (sym (same_is t (tree_at trees i) e)) in
        let last : i ≡ length trees = distinct i (length trees) t (slice_get-front trees (t ∷ []) i t here) (slice_get-seam trees [] t) in
        absurd (omega arith)

pub with_tree-added : (test : Bool) (old new : List TermNode) (trees : List Term) (node : TermNode) (id : ℕ) → grown [] old ≡ trees → new ≡ cond test old (old ++ node ∷ [])
    → Holds (grown [] new) id (build trees node) → AreDistinct (grown [] new) → grown [] new ≡ with_tree trees (build trees node)
unfolding with_tree
with_tree-added true old new trees node id view e holds distinct =
    let same : grown [] new ≡ trees = ap (grown []) e ∙ view in
    let there : list_any (same_term (build trees node)) trees ≡ true = among trees (build trees node) id (subst (λ g. Holds g id (build trees node)) same holds) in
    same ∙ sym (ap (λ b. cond b trees (trees ++ build trees node ∷ [])) there)
with_tree-added false old new trees node id view e holds distinct =
    let more : grown [] new ≡ trees ++ build trees node ∷ [] = ap (grown []) e ∙ grown-append [] old (node ∷ []) ∙ ap (λ g. g ++ build g node ∷ []) view in
    let none : list_any (same_term (build trees node)) trees ≡ false = absent trees (build trees node) (subst AreDistinct more distinct) in
    more ∙ sym (ap (λ b. cond b trees (trees ++ build trees node ∷ [])) none)
