-- Terms whose variables were listed.
use Rattle.std.specs.Prelude.{◌≡◌, ℕ, true, List, [], ◌∷◌, ◌++◌, nat_eq}
use Rattle.std.specs.List.{list_any}
use Rattle.term_core_spec.specs.declared.Variable.{Variable}
use Rattle.term_core_spec.specs.Term.{Term}
use Rattle.term_core_spec.specs.Same.{same_variable}
use Rattle.term_bank.specs.declared.node.TermNode.{TermNode}
use Rattle.term_bank.specs.declared.node.TermNode.TheVariants.{Leaf, Unary, Binary, Ternary, Quaternary, Octonary}
use Rattle.term_bank.specs.Nodes.{tree_at}
use Rattle.graph_core_spec.specs.Variables.{occurrences, occurrences_in_atom}

-- the list has each of these
abbrev pub HasAll : List Variable → List Variable → Type 0
HasAll variables [] = Unit {0}
HasAll variables (v ∷ rest) = (list_any (same_variable v) variables ≡ true) × HasAll variables rest

-- the variables of each term that was seen are listed
abbrev pub AreSeen : List Term → (variables : List Variable) → (seen : List ℕ) → Type 0
AreSeen trees variables seen = (id : ℕ) → list_any (nat_eq id) seen ≡ true → HasAll variables (occurrences (tree_at trees id))

-- the variable that a node is, if it is one
abbrev pub own_variables : TermNode → List Variable
own_variables (Leaf leaf) = occurrences_in_atom leaf
own_variables (Unary operator a) = []
own_variables (Binary operator a b) = []
own_variables (Ternary operator a b c) = []
own_variables (Quaternary operator a b c d) = []
own_variables (Octonary a b c d e f g h) = []

-- the variables of some terms, one after another
abbrev pub occurrences_of_all : List Term → List ℕ → List Variable
occurrences_of_all trees [] = []
occurrences_of_all trees (id ∷ ids) = occurrences (tree_at trees id) ++ occurrences_of_all trees ids
