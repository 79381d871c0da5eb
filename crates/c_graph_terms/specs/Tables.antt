-- Terms from a table of nodes: the arguments of a node are numbers, first those of the given terms, and then those of
-- the nodes before it.
use Rattle.std.specs.Prelude.{ℕ, ◌+◌, ◌-◌, ◌<◌, ◌&&◌, nat_lt, Bool, true, List, [], ◌∷◌, length, get_or}
use Rattle.term_core_spec.specs.Term.{Term}
use Rattle.term_bank.specs.declared.node.TermNode.{TermNode}
use Rattle.term_bank.specs.declared.node.TermNode.TheVariants.{Leaf, Unary, Binary, Ternary, Quaternary, Octonary}
use Rattle.term_bank.specs.Nodes.{tree_at}
use Rattle.term_bank.specs.Trees.{grown}

-- each argument is below n
abbrev pub is_node : ℕ → TermNode → Bool
is_node n (Leaf atom) = true
is_node n (Unary operator a) = nat_lt a n
is_node n (Binary operator a b) = nat_lt a n && nat_lt b n
is_node n (Ternary operator a b c) = nat_lt a n && (nat_lt b n && nat_lt c n)
is_node n (Quaternary operator a b c d) = nat_lt a n && (nat_lt b n && (nat_lt c n && nat_lt d n))
is_node n (Octonary a b c d e f g h) =
    nat_lt a n && (nat_lt b n && (nat_lt c n && (nat_lt d n && (nat_lt e n && (nat_lt f n && (nat_lt g n && nat_lt h n))))))

-- nodes after n terms
abbrev pub are_nodes : ℕ → List TermNode → Bool
are_nodes n [] = true
are_nodes n (node ∷ rest) = is_node n node && are_nodes (n + 1) rest

abbrev pub id_at : List ℕ → ℕ → ℕ
id_at ids i = get_or ids i 0

-- the node with ids in place of the numbers
abbrev pub placed : List ℕ → TermNode → TermNode
placed ids (Leaf atom) = Leaf atom
placed ids (Unary operator a) = Unary operator (id_at ids a)
placed ids (Binary operator a b) = Binary operator (id_at ids a) (id_at ids b)
placed ids (Ternary operator a b c) = Ternary operator (id_at ids a) (id_at ids b) (id_at ids c)
placed ids (Quaternary operator a b c d) = Quaternary operator (id_at ids a) (id_at ids b) (id_at ids c) (id_at ids d)
placed ids (Octonary a b c d e f g h) =
    Octonary (id_at ids a) (id_at ids b) (id_at ids c) (id_at ids d) (id_at ids e) (id_at ids f) (id_at ids g) (id_at ids h)

-- the last of the given terms and those of the nodes
abbrev pub table_tree : List Term → List TermNode → Term
table_tree given nodes = tree_at (grown given nodes) (length (grown given nodes) - 1)

-- each is an id of a bank of so many terms
abbrev pub AreWithin : ℕ → List ℕ → Type 0
AreWithin n [] = Unit {0}
AreWithin n (id ∷ rest) = (id < n) × AreWithin n rest
