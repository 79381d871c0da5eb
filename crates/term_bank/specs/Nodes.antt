-- Nodes, whose arguments are indices in a list of trees, and the trees that they build.
use Rattle.std.specs.Prelude.{◌≡◌, ℕ, ◌<◌, false, List, [], ◌∷◌, ◌++◌, get_or, slice_get, Some}
use Rattle.term_core_spec.specs.declared.Atom.TheVariants as atom
use Rattle.term_core_spec.specs.Term as tree
use Rattle.term_core_spec.specs.Term.{Term}
use Rattle.term_core_spec.specs.declared.Width.TheVariants.{W64}
use Rattle.term_core_spec.specs.Same.{same_term}
use Rattle.term_core_spec.specs.Value as spec
use Rattle.indexmap.specs.IndexSet.{insert_key}
use Rattle.term_bank.specs.declared.node.TermNode.{TermNode}
use Rattle.term_bank.specs.declared.node.TermNode.TheVariants.{Leaf, Unary, Binary, Ternary, Quaternary, Octonary}

-- each argument is an index below n
abbrev pub IsNode : ℕ → TermNode → Type 0
IsNode n (Leaf atom) = Unit {0}
IsNode n (Unary operator a) = a < n
IsNode n (Binary operator a b) = (a < n) × (b < n)
IsNode n (Ternary operator a b c) = (a < n) × (b < n) × (c < n)
IsNode n (Quaternary operator a b c d) = (a < n) × (b < n) × (c < n) × (d < n)
IsNode n (Octonary a b c d e f g h) = (a < n) × (b < n) × (c < n) × (d < n) × (e < n) × (f < n) × (g < n) × (h < n)

-- the tree at an index
abbrev pub tree_at : List Term → ℕ → Term
tree_at trees i = get_or trees i (tree.Leaf (atom.Truth false))

-- the tree of a node
abbrev pub build : List Term → TermNode → Term
build trees (Leaf atom) = tree.Leaf atom
build trees (Unary operator a) = tree.Unary operator (tree_at trees a)
build trees (Binary operator a b) = tree.Binary operator (tree_at trees a) (tree_at trees b)
build trees (Ternary operator a b c) = tree.Ternary operator (tree_at trees a) (tree_at trees b) (tree_at trees c)
build trees (Quaternary operator a b c d) = tree.Quaternary operator (tree_at trees a) (tree_at trees b) (tree_at trees c) (tree_at trees d)
build trees (Octonary a b c d e f g h) =
    tree.Octonary (tree_at trees a) (tree_at trees b) (tree_at trees c) (tree_at trees d) (tree_at trees e) (tree_at trees f) (tree_at trees g) (tree_at trees h)

-- the tree at this index
abbrev pub Holds : List Term → ℕ → Term → Type 0
Holds trees id t = slice_get trees id ≡ Some t

-- the trees, and this one after them where it isn't among them
unfoldable pub with_tree : List Term → Term → List Term
with_tree trees t = insert_key same_term trees t

-- the trees before are the first of the trees after
abbrev pub Extends : List Term → List Term → Type 0
Extends old new = (more : List Term) × (new ≡ old ++ more)

-- equal trees have one index
abbrev pub AreDistinct : List Term → Type 0
AreDistinct trees = (i j : ℕ) (t : Term) → Holds trees i t → Holds trees j t → i ≡ j

-- ---- values

-- the value at an index
abbrev pub value_at : List spec.Value → ℕ → spec.Value
value_at values i = get_or values i spec.stray

-- the value of a node whose arguments have these values
abbrev pub node_value : spec.Assignment → List spec.Value → TermNode → spec.Value
node_value assignment values (Leaf leaf) = spec.value_of_atom assignment leaf
node_value assignment values (Unary operator a) = spec.unary_value operator (value_at values a)
node_value assignment values (Binary operator a b) = spec.binary_value operator (value_at values a) (value_at values b)
node_value assignment values (Ternary operator a b c) = spec.ternary_value operator (value_at values a) (value_at values b) (value_at values c)
node_value assignment values (Quaternary operator a b c d) =
    spec.quaternary_value operator (value_at values a) (value_at values b) (value_at values c) (value_at values d)
node_value assignment values (Octonary a b c d e f g h) =
    spec.joined W64 (value_at values a ∷ value_at values b ∷ value_at values c ∷ value_at values d ∷ value_at values e ∷ value_at values f ∷ value_at values g ∷ value_at values h ∷ [])
