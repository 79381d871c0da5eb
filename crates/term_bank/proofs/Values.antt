-- The values of the trees of a bank, one after another.
use Rattle.std.proofs.Common.{◌≡◌, ℕ, ◌+◌, ◌<◌, ◌≤◌, List, [], ◌∷◌, ◌++◌, map, take, length, false, refl, sym, ap, ◌∙◌, arith}
use Rattle.std.proofs.Math.ListN.{get_or-map}
use Rattle.std.proofs.lemmas.List.{get_or-take, take_more, map-append}
use Rattle.std.proofs.lemmas.Option.{slice_get_within, get_or_from_slice_get}
use Rattle.term_core_spec.specs.declared.Atom.TheVariants as atom
use Rattle.term_core_spec.specs.Term as tree
use Rattle.term_core_spec.specs.Term.{Term}
use Rattle.term_core_spec.specs.Value.{Value, Assignment, value}
use Rattle.term_bank.specs.declared.node.TermNode.{TermNode}
use Rattle.term_bank.specs.declared.node.TermNode.TheVariants.{Leaf, Unary, Binary, Ternary, Quaternary, Octonary}
use Rattle.term_bank.specs.Nodes.{IsNode, tree_at, build, Holds, node_value, value_at}

-- the values of the first `count` trees
pub record AreValues (assignment : Assignment) (trees : List Term) (values : List Value) (count : ℕ) : Type 0 where
  pub values_are : values ≡ map (value assignment) (take count trees)
  pub within : count ≤ length trees

module _ (assignment : Assignment) (trees : List Term) (i : ℕ) where
  value_at-tree : (k : ℕ) → k < i → value_at (map (value assignment) (take i trees)) k ≡ value assignment (tree_at trees k)
  unfolding value
  value_at-tree k below = get_or-map (value assignment) (take i trees) k (tree.Leaf (atom.Truth false)) ∙ ap (value assignment) (get_or-take i trees k (tree.Leaf (atom.Truth false)) below)

  -- a node has the value of its tree
  pub node_value-build : (node : TermNode) → IsNode i node → node_value assignment (map (value assignment) (take i trees)) node ≡ value assignment (build trees node)
  unfolding value
  node_value-build (Leaf leaf) h = refl
  node_value-build (Unary operator a) h = let ea = value_at-tree a h in cc
  node_value-build (Binary operator a b) h =
      let ea = value_at-tree a h.0 in
      let eb = value_at-tree b h.1 in
      cc
  node_value-build (Ternary operator a b c) h =
      let ea = value_at-tree a h.0 in
      let eb = value_at-tree b h.1 in
      let ec = value_at-tree c h.2 in
      cc
  node_value-build (Quaternary operator a b c d) h =
      let ea = value_at-tree a h.0 in
      let eb = value_at-tree b h.1 in
      let ec = value_at-tree c h.2 in
      let ed = value_at-tree d h.3 in
      cc
  node_value-build (Octonary a b c d e f g j) h =
      rw (value_at-tree a h.0, value_at-tree b h.1, value_at-tree c h.2, value_at-tree d h.3, value_at-tree e h.4, value_at-tree f h.5, value_at-tree g h.6, value_at-tree j h.7) refl

-- one more tree
pub AreValues-push : (assignment : Assignment) (trees : List Term) (values more : List Value) (i : ℕ) (node : TermNode) (v : Value)
    → AreValues assignment trees values i → IsNode i node → Holds trees i (build trees node) → v ≡ node_value assignment values node → more ≡ values ++ v ∷ [] → AreValues assignment trees more (i + 1)
AreValues-push assignment trees values more i node v before fits at e grows =
    let within : i < length trees = slice_get_within trees i (build trees node) at in
    let here : tree_at trees i ≡ build trees node = get_or_from_slice_get trees i (build trees node) (tree.Leaf (atom.Truth false)) at in
    let values_are : v ≡ value assignment (tree_at trees i) =
    e ∙ ap (λ vs. node_value assignment vs node) before.values_are ∙ node_value-build assignment trees i node fits ∙ ap (value assignment) (sym here) in
    let longer : map (value assignment) (take (i + 1) trees) ≡ map (value assignment) (take i trees) ++ (value assignment (tree_at trees i) ∷ []) =
    ap (map (value assignment)) (take_more trees i (tree.Leaf (atom.Truth false)) within) ∙ map-append (value assignment) (take i trees) (tree_at trees i ∷ []) in
    record {
      values_are = grows ∙ ap (λ vs. vs ++ v ∷ []) before.values_are ∙ ap (λ x. map (value assignment) (take i trees) ++ x ∷ []) values_are ∙ sym longer;
      within = omega arith;
    }
