-- Nodes, whose parts are indices in a list of trees, and the trees that they build.
use Rattle.std.specs.Prelude.{◌≡◌, ℕ, ◌+◌, ◌<◌, List, [], ◌∷◌, ◌++◌, get_or, slice_get, Some}
use Rattle.code_reach_spec.specs.RunUp as tree
use Rattle.code_reach_spec.specs.RunUp.{Symbolic}
use Rattle.code_reach_tables.specs.declared.nodes.Node.{Node}
use Rattle.code_reach_tables.specs.declared.nodes.Node.TheVariants.{Constant, Initial, Unknown, Sum, Difference, Shifted, Masked}

-- each part is an index below n
abbrev pub IsNode : ℕ → Node → Type 0
IsNode n (Constant value) = Unit {0}
IsNode n (Initial r) = Unit {0}
IsNode n (Unknown address) = Unit {0}
IsNode n (Sum a b) = (a < n) × (b < n)
IsNode n (Difference a b) = (a < n) × (b < n)
IsNode n (Shifted a amount) = a < n
IsNode n (Masked a mask) = a < n

-- the tree at an index
abbrev pub tree_at : List Symbolic → ℕ → Symbolic
tree_at trees i = get_or trees i (tree.Constant 0)

-- the tree of a node
abbrev pub build : List Symbolic → Node → Symbolic
build trees (Constant value) = tree.Constant value
build trees (Initial r) = tree.Initial r
build trees (Unknown address) = tree.Unknown address
build trees (Sum a b) = tree.Sum (tree_at trees a) (tree_at trees b)
build trees (Difference a b) = tree.Difference (tree_at trees a) (tree_at trees b)
build trees (Shifted a amount) = tree.Shifted (tree_at trees a) amount
build trees (Masked a mask) = tree.Masked (tree_at trees a) mask

-- the tree at this index
abbrev pub Holds : List Symbolic → ℕ → Symbolic → Type 0
Holds trees id t = slice_get trees id ≡ Some t

-- the trees before are the first of the trees after
abbrev pub Extends : List Symbolic → List Symbolic → Type 0
Extends old new = (more : List Symbolic) × (new ≡ old ++ more)

-- equal trees have one index
abbrev pub AreDistinct : List Symbolic → Type 0
AreDistinct trees = (i j : ℕ) (t : Symbolic) → Holds trees i t → Holds trees j t → i ≡ j

-- the trees so far, and those of the nodes that follow
abbrev pub grown : List Symbolic → List Node → List Symbolic
grown trees [] = trees
grown trees (node ∷ rest) = grown (trees ++ build trees node ∷ []) rest

abbrev pub trees_of : List Node → List Symbolic
trees_of nodes = grown [] nodes

-- the parts of each node come before it
abbrev pub AreNodes : ℕ → List Node → Type 0
AreNodes n [] = Unit {0}
AreNodes n (node ∷ rest) = IsNode n node × AreNodes (n + 1) rest

-- the parts of each node come before it, and no tree occurs twice
pub record AreShared (nodes : List Node) : Type 0 where
  pub ordered : AreNodes 0 nodes
  pub distinct : AreDistinct (trees_of nodes)

-- the trees stay, and this one has an index
pub record Gives (old new : List Node) (id : ℕ) (t : Symbolic) : Type 0 where
  pub shared : AreShared new
  pub extends : Extends (trees_of old) (trees_of new)
  pub holds : Holds (trees_of new) id t

-- a tree and a number, of an index and a number
abbrev pub parts_seen : List Symbolic → ℕ × ℕ → Symbolic × ℕ
parts_seen ts parts = (tree_at ts parts.0, parts.1)
