-- The ids of the arguments of a node, and lists of ids without repetition.
use Rattle.std.specs.Prelude.{ℕ, nat_eq, if◌then◌else◌, List, [], ◌∷◌, ◌++◌}
use Rattle.std.specs.List.{list_any}
use Rattle.term_bank.specs.declared.node.TermNode.{TermNode}
use Rattle.term_bank.specs.declared.node.TermNode.TheVariants.{Leaf, Unary, Binary, Ternary, Quaternary, Octonary}

-- the arguments of a node
abbrev pub arguments_of : TermNode → List ℕ
arguments_of (Leaf atom) = []
arguments_of (Unary operator a) = a ∷ []
arguments_of (Binary operator a b) = a ∷ b ∷ []
arguments_of (Ternary operator a b c) = a ∷ b ∷ c ∷ []
arguments_of (Quaternary operator a b c d) = a ∷ b ∷ c ∷ d ∷ []
arguments_of (Octonary a b c d e f g h) = a ∷ b ∷ c ∷ d ∷ e ∷ f ∷ g ∷ h ∷ []

-- with an id, where it isn't there
abbrev pub with_id : List ℕ → ℕ → List ℕ
with_id ids i = if list_any (nat_eq i) ids then ids else ids ++ i ∷ []

-- with some ids, each where it isn't there
abbrev pub with_ids : List ℕ → List ℕ → List ℕ
with_ids ids [] = ids
with_ids ids (i ∷ rest) = with_ids (with_id ids i) rest
