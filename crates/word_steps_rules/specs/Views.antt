-- Terms of the code, as the definitions have them, over the trees of a bank.
use Rattle.std.specs.Prelude.{◌≡◌, ℕ, ◌<◌, ◌&&◌, Bool, List, All, Option, Some, None}
use Rattle.term_core_spec.specs.declared.BinaryOperator.{BinaryOperator}
use Rattle.term_core_spec.specs.contracts.BinaryOperatorPartialEq.TheImpl as binary_test
use Rattle.term_core_spec.specs.Term as tree
use Rattle.term_core_spec.specs.Term.{Term}
use Rattle.term_core_spec.specs.Same.{same_term}
use Rattle.term_bank.specs.declared.node.TermNode.{TermNode}
use Rattle.term_bank.specs.declared.node.TermNode.TheVariants as node
use Rattle.term_bank.specs.Nodes.{tree_at}
use Rattle.word_steps_spec.specs.Sides as sides
use Rattle.word_steps_spec.specs.Commuting.{is_commutative}
use Rattle.word_steps_rules.specs.declared.words.Sides.{Sides}
use Rattle.word_steps_rules.specs.declared.commuting.Operation.{Operation}

abbrev pub sides_in : List Term → Sides → sides.Sides
sides_in trees s = record { left = tree_at trees s.left; right = tree_at trees s.right }

abbrev pub AreAtoms : ℕ → List ℕ → Type 0
AreAtoms n ids = All (λ id. id < n) ids

-- the sides are of terms below
abbrev pub AreBelow : ℕ → Option Sides → Type 0
AreBelow n (Some s) = (s.left < n) × (s.right < n)
AreBelow n None = Unit {0}

-- ---- operators over two terms

-- an operator over two trees
pub record OnTwo : Type 0 where
  pub operator : BinaryOperator
  pub sides : sides.Sides

unfoldable pub operation_of : Term → Option OnTwo
operation_of (tree.Binary operator x y) = Some (record { operator = operator; sides = record { left = x; right = y } })
operation_of t = None

abbrev pub operation_in : List Term → Operation → OnTwo
operation_in trees o = record { operator = o.operator; sides = sides_in trees o.sides }

abbrev pub operation_of_node : TermNode → Option Operation
operation_of_node (node.Binary operator x y) = Some (record { operator = operator; sides = record { left = x; right = y } })
operation_of_node (node.Leaf leaf) = None
operation_of_node (node.Unary operator x) = None
operation_of_node (node.Ternary operator x y z) = None
operation_of_node (node.Quaternary operator x y z w) = None
operation_of_node (node.Octonary a b c d e f g h) = None

-- the operator of a term, whose arguments are before it
pub record IsOperation (trees : List Term) (id : ℕ) (o : Operation) : Type 0 where
  pub is : operation_of (tree_at trees id) ≡ Some (operation_in trees o)
  pub left : o.sides.left < id
  pub right : o.sides.right < id

abbrev pub IsOperationOf : List Term → ℕ → Option Operation → Type 0
IsOperationOf trees id (Some o) = IsOperation trees id o
IsOperationOf trees id None = operation_of (tree_at trees id) ≡ None

-- one operator, whose arguments may be put in any order
abbrev pub are_alike : Operation → Operation → Bool
are_alike o p = is_commutative o.operator && binary_test.ghosts.eq o.operator p.operator

-- the sides of one are those of the other, the other way round
abbrev pub are_turned : sides.Sides → sides.Sides → Bool
are_turned s t = same_term s.left t.right && same_term s.right t.left
