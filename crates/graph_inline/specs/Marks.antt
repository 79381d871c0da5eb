-- Marks on the terms of a bank.
use Rattle.std.specs.Prelude.{◌≡◌, ℕ, ◌≤◌, Bool, true, false, List, [], ◌∷◌, All, length, get_or}
use Rattle.term_core_spec.specs.Term.{Term, Leaf, Unary, Binary, Ternary, Quaternary, Octonary}
use Rattle.term_bank.specs.Nodes.{tree_at, Holds}
use Rattle.graph_core.specs.declared.shared.SharedBinding.{SharedBinding}
use Rattle.graph_core.specs.declared.shared.SharedNode.{SharedNode}
use Rattle.graph_core.specs.declared.shared.SharedNode.TheVariants as node

abbrev pub is_marked : List Bool → ℕ → Bool
is_marked marks id = get_or marks id false

-- what is marked stays so
abbrev pub MoreMarked : (old new : List Bool) → Type 0
MoreMarked old new = (id : ℕ) → is_marked old id ≡ true → is_marked new id ≡ true

-- ---- with each marked term its arguments

-- the arguments of a term
abbrev pub arguments : Term → List Term
arguments (Leaf atom) = []
arguments (Unary operator a) = a ∷ []
arguments (Binary operator a b) = a ∷ b ∷ []
arguments (Ternary operator a b c) = a ∷ b ∷ c ∷ []
arguments (Quaternary operator a b c d) = a ∷ b ∷ c ∷ d ∷ []
arguments (Octonary a b c d e f g h) = a ∷ b ∷ c ∷ d ∷ e ∷ f ∷ g ∷ h ∷ []

-- each of these terms is marked where it is in the bank
abbrev pub AreMarked : (trees : List Term) (marks : List Bool) → List Term → Type 0
AreMarked trees marks terms = All (λ t. (id : ℕ) → Holds trees id t → is_marked marks id ≡ true) terms

-- with each marked term, from one on, its arguments are marked
abbrev pub AreClosed : (first : ℕ) (trees : List Term) (marks : List Bool) → Type 0
AreClosed first trees marks = (id : ℕ) → first ≤ id → is_marked marks id ≡ true → AreMarked trees marks (arguments (tree_at trees id))

-- ---- the terms that a call takes from its callee

abbrev pub BindingsMarked : List Bool → List SharedBinding → Type 0
BindingsMarked marks bindings = All (λ b. is_marked marks b.term ≡ true) bindings

abbrev pub OutputsMarked : List Bool → SharedNode → Type 0
OutputsMarked marks (node.Basic bindings next) = Unit {0}
OutputsMarked marks (node.Cond test on_true on_false) = Unit {0}
OutputsMarked marks (node.Call callee inputs outputs landing) = BindingsMarked marks outputs.items

-- marks for some bindings of a bank: their terms are marked, and with each its arguments
pub record AreFor (trees : List Term) (bindings : List SharedBinding) (marks : List Bool) : Type 0 where
  pub count : length marks ≡ length trees
  pub closed : AreClosed 0 trees marks
  pub marked : BindingsMarked marks bindings
