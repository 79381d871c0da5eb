-- Terms of one bank that are taken to another, with the terms of a state in place of their variables.
use Rattle.std.specs.Prelude.{◌≡◌, ℕ, ◌<◌, List, [], ◌∷◌, length, Option, Some, None, IsSome, unwrap_or}
use Rattle.term_core_spec.specs.declared.Variable.{Variable}
use Rattle.term_core_spec.specs.declared.Atom.{Atom}
use Rattle.term_core_spec.specs.Term.{Term}
use Rattle.term_core_spec.specs.Substitution.{State, substituted}
use Rattle.term_bank.specs.declared.node.TermNode.{TermNode}
use Rattle.term_bank.specs.declared.node.TermNode.TheVariants.{Leaf, Unary, Binary, Ternary, Quaternary, Octonary}
use Rattle.term_bank.specs.Nodes.{tree_at, Holds}
use Rattle.term_substitution.specs.States.{state_of}

-- the ids are those of the state's terms; a variable without one is itself
abbrev pub HasTerms : List Term → (Variable → Option ℕ) → State → Type 0
HasTerms trees ids terms = (v : Variable) → state_of trees ids v ≡ terms v

-- ---- tables of what was taken: the index in the one bank, and that in the other

-- each index is one of a bank of so many terms
abbrev pub AreWithin : ℕ → (ℕ → Option ℕ) → Type 0
AreWithin n done = (id index : ℕ) → done id ≡ Some index → index < n

-- each index is that of the substituted tree
abbrev pub AreTaken : State → (from trees : List Term) → (ℕ → Option ℕ) → Type 0
AreTaken terms from trees done = (id index : ℕ) → done id ≡ Some index → Holds trees index (substituted terms (tree_at from id))

-- more was taken, as the bank grew: what was there is there, and stays right for each state that has these ids
pub record TakesMore (from : List Term) (ids : Variable → Option ℕ) (old new : List Term) (done more : ℕ → Option ℕ) : Type 0 where
  pub within : AreWithin (length new) more
  pub kept : (id : ℕ) → IsSome (done id) → IsSome (more id)
  pub taken : (terms : State) → HasTerms old ids terms → AreTaken terms from old done → AreTaken terms from new more

abbrev pub AllTaken : (ℕ → Option ℕ) → List ℕ → Type 0
AllTaken done [] = Unit {0}
AllTaken done (id ∷ ids) = IsSome (done id) × AllTaken done ids

abbrev pub taken_id : (ℕ → Option ℕ) → ℕ → ℕ
taken_id done id = unwrap_or (done id) 0

-- a node over the indices of its arguments
abbrev pub over : (ℕ → Option ℕ) → TermNode → TermNode
over done (Leaf atom) = Leaf atom
over done (Unary operator a) = Unary operator (taken_id done a)
over done (Binary operator a b) = Binary operator (taken_id done a) (taken_id done b)
over done (Ternary operator a b c) = Ternary operator (taken_id done a) (taken_id done b) (taken_id done c)
over done (Quaternary operator a b c d) = Quaternary operator (taken_id done a) (taken_id done b) (taken_id done c) (taken_id done d)
over done (Octonary a b c d e f g h) =
    Octonary (taken_id done a) (taken_id done b) (taken_id done c) (taken_id done d) (taken_id done e) (taken_id done f) (taken_id done g) (taken_id done h)

abbrev pub atom_of : TermNode → Option Atom
atom_of (Leaf atom) = Some atom
atom_of (Unary operator a) = None
atom_of (Binary operator a b) = None
atom_of (Ternary operator a b c) = None
atom_of (Quaternary operator a b c d) = None
atom_of (Octonary a b c d e f g h) = None
