-- The indices that the terms of a bank have in a table.
use Rattle.std.specs.Prelude.{◌≡◌, ℕ, nat_eq, List, [], ◌∷◌, Some, IsSome, unwrap_or}
use Rattle.std.specs.HashMap.{HashMap, get}
use Rattle.term_core_spec.specs.Term.{Term}
use Rattle.term_bank.specs.declared.node.TermNode.{TermNode}
use Rattle.term_bank.specs.declared.node.TermNode.TheVariants.{Leaf, Unary, Binary, Ternary, Quaternary, Octonary}
use Rattle.term_bank.specs.Nodes.{tree_at, Holds}
use Rattle.bit_blast_spec.specs.Goal.{Table}
use Rattle.bit_blast.specs.Terms.{terms_in}

-- from left to right
abbrev pub children : TermNode → List ℕ
children (Leaf leaf) = []
children (Unary operator a) = a ∷ []
children (Binary operator a b) = a ∷ b ∷ []
children (Ternary operator a b c) = a ∷ b ∷ c ∷ []
children (Quaternary operator a b c d) = a ∷ b ∷ c ∷ d ∷ []
children (Octonary a b c d e f g h) = a ∷ b ∷ c ∷ d ∷ e ∷ f ∷ g ∷ h ∷ []

module _ {S : Type 0} where
  -- the term has an index
  abbrev pub IsIndexed : HashMap ℕ ℕ S → ℕ → Type 0
  IsIndexed indices id = IsSome (get nat_eq indices id)

  abbrev pub AllIndexed : HashMap ℕ ℕ S → List ℕ → Type 0
  AllIndexed indices [] = Unit {0}
  AllIndexed indices (id ∷ ids) = IsIndexed indices id × AllIndexed indices ids

  abbrev pub index_in : HashMap ℕ ℕ S → ℕ → ℕ
  index_in indices id = unwrap_or (get nat_eq indices id) 0

  -- over the indices of its arguments
  abbrev pub moved : HashMap ℕ ℕ S → TermNode → TermNode
  moved indices (Leaf leaf) = Leaf leaf
  moved indices (Unary operator a) = Unary operator (index_in indices a)
  moved indices (Binary operator a b) = Binary operator (index_in indices a) (index_in indices b)
  moved indices (Ternary operator a b c) = Ternary operator (index_in indices a) (index_in indices b) (index_in indices c)
  moved indices (Quaternary operator a b c d) = Quaternary operator (index_in indices a) (index_in indices b) (index_in indices c) (index_in indices d)
  moved indices (Octonary a b c d e f g h) =
      Octonary (index_in indices a) (index_in indices b) (index_in indices c) (index_in indices d) (index_in indices e) (index_in indices f) (index_in indices g) (index_in indices h)

  -- each term that has an index is there
  abbrev pub AreIndices : List Term → HashMap ℕ ℕ S → Table → Type 0
  AreIndices trees indices table = (id index : ℕ) → get nat_eq indices id ≡ Some index → Holds (terms_in table) index (tree_at trees id)
