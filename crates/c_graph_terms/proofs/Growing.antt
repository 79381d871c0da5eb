-- The terms of a table, one node after the other.
use Rattle.std.proofs.Common.{◌≡◌, ◌∙◌, ℕ, zero, suc, ◌+◌, ◌-◌, ◌<◌, ◌&&◌, Bool, true, false, List, [], ◌∷◌, ◌++◌, length, map, get_or, drop, refl, sym, ap, ap₂, subst, arith, length-append, drop-cons}
use Rattle.std.specs.Prelude.{IsTrue, nat_lt}
use Rattle.std.proofs.lemmas.Bool.{ltb-true}
use Rattle.std.proofs.lemmas.List.{map-append, get_or-map}
use Rattle.term_core_spec.specs.declared.Atom.TheVariants as atom
use Rattle.term_core_spec.specs.Term as tree
use Rattle.term_core_spec.specs.Term.{Term}
use Rattle.term_bank.specs.declared.node.TermNode.{TermNode}
use Rattle.term_bank.specs.declared.node.TermNode.TheVariants.{Leaf, Unary, Binary, Ternary, Quaternary, Octonary}
use Rattle.term_bank.specs.Nodes.{IsNode, tree_at, build}
use Rattle.term_bank.specs.Trees.{grown}
use Rattle.c_graph_terms.specs.Tables.{is_node, are_nodes, id_at, placed, table_tree, AreWithin}
use Rattle.c_graph_terms.specs.Built.{IsGrown, IsBuilt, AreGrown}
use Rattle.c_graph_terms.proofs.Banks.{kept, within_later}

-- ---- tests

both : (a b : Bool) → IsTrue (a && b) → IsTrue a × IsTrue b
both true true h = (refl, refl)
both true false h = absurd (cc)
both false b h = absurd (cc)

below : (a n : ℕ) → IsTrue (nat_lt a n) → a < n
below a n h = ltb-true a n h

pub node_fits : (n : ℕ) (node : TermNode) → IsTrue (is_node n node) → IsNode n node
node_fits n (Leaf atom) h = tt
node_fits n (Unary operator a) h = below a n h
node_fits n (Binary operator a b) h = let p = both (nat_lt a n) (nat_lt b n) h in (below a n p.0, below b n p.1)
node_fits n (Ternary operator a b c) h =
    let p = both (nat_lt a n) (nat_lt b n && nat_lt c n) h in
    let q = both (nat_lt b n) (nat_lt c n) p.1 in
    (below a n p.0, below b n q.0, below c n q.1)
node_fits n (Quaternary operator a b c d) h =
    let p = both (nat_lt a n) (nat_lt b n && (nat_lt c n && nat_lt d n)) h in
    let q = both (nat_lt b n) (nat_lt c n && nat_lt d n) p.1 in
    let r = both (nat_lt c n) (nat_lt d n) q.1 in
    (below a n p.0, below b n q.0, below c n r.0, below d n r.1)
node_fits n (Octonary a b c d e f g i) h =
    let p1 = both (nat_lt a n) (nat_lt b n && (nat_lt c n && (nat_lt d n && (nat_lt e n && (nat_lt f n && (nat_lt g n && nat_lt i n)))))) h in
    let p2 = both (nat_lt b n) (nat_lt c n && (nat_lt d n && (nat_lt e n && (nat_lt f n && (nat_lt g n && nat_lt i n))))) p1.1 in
    let p3 = both (nat_lt c n) (nat_lt d n && (nat_lt e n && (nat_lt f n && (nat_lt g n && nat_lt i n)))) p2.1 in
    let p4 = both (nat_lt d n) (nat_lt e n && (nat_lt f n && (nat_lt g n && nat_lt i n))) p3.1 in
    let p5 = both (nat_lt e n) (nat_lt f n && (nat_lt g n && nat_lt i n)) p4.1 in
    let p6 = both (nat_lt f n) (nat_lt g n && nat_lt i n) p5.1 in
    let p7 = both (nat_lt g n) (nat_lt i n) p6.1 in
    (below a n p1.0, below b n p2.0, below c n p3.0, below d n p4.0, below e n p5.0, below f n p6.0, below g n p7.0, below i n p7.1)

-- ---- ids

pub within_at : (n : ℕ) (ids : List ℕ) (i : ℕ) → AreWithin n ids → i < length ids → id_at ids i < n
within_at n [] i h below_i = absurd (omega arith)
within_at n (id ∷ ids) zero h below_i = h.0
within_at n (id ∷ ids) (suc i) h below_i = within_at n ids i h.1 (omega arith)

pub all_later : (a b : List Term) (ids : List ℕ) → IsGrown a b → AreWithin (length a) ids → AreWithin (length b) ids
all_later a b [] g h = tt
all_later a b (id ∷ ids) g h = (within_later a b id g h.0, all_later a b ids g h.1)

pub with_last : (n : ℕ) (ids : List ℕ) (id : ℕ) → AreWithin n ids → id < n → AreWithin n (ids ++ id ∷ [])
with_last n [] id h below_id = (below_id, tt)
with_last n (x ∷ ids) id h below_id = (h.0, with_last n ids id h.1 below_id)

pub trees_kept : (a b : List Term) (ids : List ℕ) → IsGrown a b → AreWithin (length a) ids → map (tree_at b) ids ≡ map (tree_at a) ids
trees_kept a b [] g h = refl
trees_kept a b (id ∷ ids) g h = ap₂ (λ (t : Term) (ts : List Term). t ∷ ts) (kept a b id g h.0) (trees_kept a b ids g h.1)

-- the tree at a number is that at its id
pub at_id : (trees : List Term) (ids : List ℕ) (i : ℕ) → i < length ids → tree_at trees (id_at ids i) ≡ tree_at (map (tree_at trees) ids) i
at_id trees ids i h = sym (get_or-map (tree_at trees) ids i 0 (tree.Leaf (atom.Truth false)) h)

pub placed_fits : (n : ℕ) (ids : List ℕ) (node : TermNode) → AreWithin n ids → IsNode (length ids) node → IsNode n (placed ids node)
placed_fits n ids (Leaf atom) w h = tt
placed_fits n ids (Unary operator a) w h = within_at n ids a w h
placed_fits n ids (Binary operator a b) w h = (within_at n ids a w h.0, within_at n ids b w h.1)
placed_fits n ids (Ternary operator a b c) w h = (within_at n ids a w h.0, within_at n ids b w h.1, within_at n ids c w h.2)
placed_fits n ids (Quaternary operator a b c d) w h = (within_at n ids a w h.0, within_at n ids b w h.1, within_at n ids c w h.2, within_at n ids d w h.3)
placed_fits n ids (Octonary a b c d e f g i) w h =
    (within_at n ids a w h.0, within_at n ids b w h.1, within_at n ids c w h.2, within_at n ids d w h.3, within_at n ids e w h.4, within_at n ids f w h.5, within_at n ids g w h.6, within_at n ids i w h.7)

pub placed_tree : (trees : List Term) (ids : List ℕ) (node : TermNode) → IsNode (length ids) node → build trees (placed ids node) ≡ build (map (tree_at trees) ids) node
placed_tree trees ids (Leaf atom) h = refl
placed_tree trees ids (Unary operator a) h = let ea = at_id trees ids a h in cc
placed_tree trees ids (Binary operator a b) h =
    let ea = at_id trees ids a h.0 in
    let eb = at_id trees ids b h.1 in
    cc
placed_tree trees ids (Ternary operator a b c) h =
    let ea = at_id trees ids a h.0 in
    let eb = at_id trees ids b h.1 in
    let ec = at_id trees ids c h.2 in
    cc
placed_tree trees ids (Quaternary operator a b c d) h =
    let ea = at_id trees ids a h.0 in
    let eb = at_id trees ids b h.1 in
    let ec = at_id trees ids c h.2 in
    let ed = at_id trees ids d h.3 in
    cc
placed_tree trees ids (Octonary a b c d e f g i) h =
    let ea = at_id trees ids a h.0 in
    let eb = at_id trees ids b h.1 in
    let ec = at_id trees ids c h.2 in
    let ed = at_id trees ids d h.3 in
    let ee = at_id trees ids e h.4 in
    let ef = at_id trees ids f h.5 in
    let eg = at_id trees ids g h.6 in
    let ei = at_id trees ids i h.7 in
    cc

-- ---- one node more

-- of nodes from a place on: the first, and the others
pub rest_fit : (n : ℕ) (nodes rest : List TermNode) (node : TermNode) → nodes ≡ node ∷ rest → IsTrue (are_nodes n nodes) → IsNode n node × IsTrue (are_nodes (n + 1) rest)
rest_fit n nodes rest node e h =
    let p = both (is_node n node) (are_nodes (n + 1) rest) (subst (λ l. IsTrue (are_nodes n l)) e h) in
    (node_fits n node p.0, p.1)

pub one_more : (old new : List Term) (ids : List ℕ) (nodes rest : List TermNode) (node : TermNode) (id : ℕ) → nodes ≡ node ∷ rest → AreWithin (length old) ids
    → IsTrue (are_nodes (length ids) nodes) → IsGrown old new → tree_at new id ≡ build old (placed ids node)
    → grown (map (tree_at new) (ids ++ id ∷ [])) rest ≡ grown (map (tree_at old) ids) nodes
one_more old new ids nodes rest node id e w fit g is =
    let fits = rest_fit (length ids) nodes rest node e fit in
    let here : tree_at new id ≡ build (map (tree_at old) ids) node = is ∙ placed_tree old ids node fits.0 in
    let before : map (tree_at new) ids ≡ map (tree_at old) ids = trees_kept old new ids g w in
    let all : map (tree_at new) (ids ++ id ∷ []) ≡ map (tree_at old) ids ++ build (map (tree_at old) ids) node ∷ [] =
    map-append (tree_at new) ids (id ∷ []) ∙ ap₂ (λ (ts : List Term) (t : Term). ts ++ t ∷ []) before here in
    ap (λ ts. grown ts rest) all ∙ ap (grown (map (tree_at old) ids)) (sym e)

pub fits_more : (ids : List ℕ) (nodes rest : List TermNode) (node : TermNode) (id : ℕ) → nodes ≡ node ∷ rest → IsTrue (are_nodes (length ids) nodes)
    → IsTrue (are_nodes (length (ids ++ id ∷ [])) rest)
fits_more ids nodes rest node id e fit =
    let n : length (ids ++ id ∷ []) ≡ length ids + 1 = length-append ids (id ∷ []) in
    subst (λ k. IsTrue (are_nodes k rest)) (sym n) (rest_fit (length ids) nodes rest node e fit).1

-- ---- the last

length-map : {X Y : Type 0} (f : X → Y) (xs : List X) → length (map f xs) ≡ length xs
length-map f [] = refl
length-map f (x ∷ xs) = ap suc (length-map f xs)

pub last_built : (old new : List Term) (given ids : List ℕ) (nodes : List TermNode) → AreGrown old new given ids nodes → 0 < length given + length nodes
    → IsBuilt old new (id_at ids (length ids - 1)) (table_tree (map (tree_at old) given) nodes)
last_built old new given ids nodes h some =
    let many : length ids ≡ length given + length nodes = h.count in
    let last : length ids - 1 < length ids = omega arith in
    let as_many : length (grown (map (tree_at old) given) nodes) ≡ length ids = ap length (sym h.trees) ∙ length-map (tree_at new) ids in
    record {
      is_grown = h.is_grown;
      within = within_at (length new) ids (length ids - 1) h.within last;
      tree = at_id new ids (length ids - 1) last ∙ ap (λ ts. tree_at ts (length ids - 1)) h.trees
          ∙ ap (λ n. tree_at (grown (map (tree_at old) given) nodes) (n - 1)) (sym as_many);
    }

pub same_default : (xs : List ℕ) (i d e : ℕ) → i < length xs → get_or xs i d ≡ get_or xs i e
same_default [] i d e h = absurd (omega arith)
same_default (x ∷ xs) zero d e h = refl
same_default (x ∷ xs) (suc i) d e h = same_default xs i d e (omega arith)

-- the nodes from a place on: that one first
pub next_node : (nodes : List TermNode) (i : ℕ) → i < length nodes → drop i nodes ≡ get_or nodes i (Leaf (atom.Truth false)) ∷ drop (i + 1) nodes
next_node nodes i h =
    let next : i + 1 ≡ suc i = omega arith in
    drop-cons nodes i (Leaf (atom.Truth false)) h ∙ ap (λ (n : ℕ). get_or nodes i (Leaf (atom.Truth false)) ∷ drop n nodes) (sym next)
