-- The trees of a bank's nodes.
use Rattle.std.specs.Prelude.{ℕ, ◌+◌, List, [], ◌∷◌, ◌++◌}
use Rattle.term_core_spec.specs.Term.{Term}
use Rattle.term_bank.specs.declared.node.TermNode.{TermNode}
use Rattle.term_bank.specs.Nodes.{IsNode, build, AreDistinct}

-- the trees so far, and those of the nodes that follow
abbrev pub grown : List Term → List TermNode → List Term
grown trees [] = trees
grown trees (node ∷ rest) = grown (trees ++ build trees node ∷ []) rest

-- the arguments of each node come before it
abbrev pub AreNodes : ℕ → List TermNode → Type 0
AreNodes n [] = Unit {0}
AreNodes n (node ∷ rest) = IsNode n node × AreNodes (n + 1) rest

-- the arguments of each node come before it, and no tree occurs twice
pub record AreShared (nodes : List TermNode) : Type 0 where
  pub ordered : AreNodes 0 nodes
  pub distinct : AreDistinct (grown [] nodes)
