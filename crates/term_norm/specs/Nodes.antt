-- Nodes over what a walk made of their arguments, and what they stand for.
use Rattle.std.specs.Prelude.{◌≡◌, ℕ, List, Option, Some, Result, Ok, Err}
use Rattle.term_core_spec.specs.declared.TernaryOperator.TheVariants.{Store, Choose}
use Rattle.term_core_spec.specs.declared.QuaternaryOperator.TheVariants.{Over, Join}
use Rattle.term_core_spec.specs.Term as tree
use Rattle.term_core_spec.specs.Term.{Term}
use Rattle.memory_spec.specs.Runs.{Run}
use Rattle.term_norm_spec.specs.Normal as spec
use Rattle.term_bank.specs.declared.node.TermNode.{TermNode}
use Rattle.term_bank.specs.declared.node.TermNode.TheVariants.{Leaf, Unary, Binary, Ternary, Quaternary, Octonary}
use Rattle.term_bank.specs.Nodes.{IsNode, tree_at}
use Rattle.term_norm.specs.declared.walk.Stop.{Stop}
use Rattle.term_norm.specs.Walk.{IsStop}

-- a call answers a node that is so over what was made of arguments; or that one of the arguments is needed
abbrev pub IsOver : ((ℕ → Option ℕ) → TermNode → TermNode → Type 0) → (ℕ → Option ℕ) → TermNode → Result TermNode Stop → Type 0
IsOver Has form node (Ok other) = Has form node other
IsOver Has form node (Err stop) = (bound : ℕ) → IsNode bound node → IsStop form bound stop

-- ---- forms

-- the second node is the first over the forms of its arguments
abbrev pub HasForms : (ℕ → Option ℕ) → TermNode → TermNode → Type 0
HasForms form (Leaf leaf) other = other ≡ Leaf leaf
HasForms form (Unary operator a) other = (x : ℕ) × (form a ≡ Some x) × (other ≡ Unary operator x)
HasForms form (Binary operator a b) other = (x : ℕ) × (y : ℕ) × (form a ≡ Some x) × (form b ≡ Some y) × (other ≡ Binary operator x y)
HasForms form (Ternary operator a b c) other =
    (x : ℕ) × (y : ℕ) × (z : ℕ) × (form a ≡ Some x) × (form b ≡ Some y) × (form c ≡ Some z) × (other ≡ Ternary operator x y z)
HasForms form (Quaternary operator a b c d) other =
    (x : ℕ) × (y : ℕ) × (z : ℕ) × (w : ℕ) × (form a ≡ Some x) × (form b ≡ Some y) × (form c ≡ Some z) × (form d ≡ Some w)
    × (other ≡ Quaternary operator x y z w)
HasForms form (Octonary a b c d e f g h) other =
    (s : ℕ) × (t : ℕ) × (u : ℕ) × (v : ℕ) × (w : ℕ) × (x : ℕ) × (y : ℕ) × (z : ℕ)
    × (form a ≡ Some s) × (form b ≡ Some t) × (form c ≡ Some u) × (form d ≡ Some v)
    × (form e ≡ Some w) × (form f ≡ Some x) × (form g ≡ Some y) × (form h ≡ Some z)
    × (other ≡ Octonary s t u v w x y z)

-- the normal form of a node whose arguments are in normal form
abbrev pub normal_node : List Run → List Term → TermNode → Term
normal_node runs trees (Leaf leaf) = tree.Leaf leaf
normal_node runs trees (Unary operator x) = spec.normal_unary operator (tree_at trees x)
normal_node runs trees (Binary operator x y) = spec.normal_binary runs operator (tree_at trees x) (tree_at trees y)
normal_node runs trees (Ternary operator x y z) = spec.normal_ternary operator (tree_at trees x) (tree_at trees y) (tree_at trees z)
normal_node runs trees (Quaternary operator x y z w) =
    spec.normal_quaternary operator (tree_at trees x) (tree_at trees y) (tree_at trees z) (tree_at trees w)
normal_node runs trees (Octonary s t u v w x y z) =
    spec.normal_octonary (tree_at trees s) (tree_at trees t) (tree_at trees u) (tree_at trees v) (tree_at trees w) (tree_at trees x) (tree_at trees y) (tree_at trees z)

-- ---- loads

-- the second node is the first over the loads of the memories that it is made of
abbrev pub HasLoads : (ℕ → Option ℕ) → TermNode → TermNode → Type 0
HasLoads load (Ternary Store m a b) other = (below : ℕ) × (load m ≡ Some below) × (other ≡ Ternary Store below a b)
HasLoads load (Ternary Choose c m n) other = (x : ℕ) × (y : ℕ) × (load m ≡ Some x) × (load n ≡ Some y) × (other ≡ Ternary Choose c x y)
HasLoads load (Quaternary Over m n low high) other =
    (lower : ℕ) × (upper : ℕ) × (load m ≡ Some lower) × (load n ≡ Some upper) × (other ≡ Quaternary Over lower upper low high)
HasLoads load (Quaternary Join a b c d) other = other ≡ Quaternary Join a b c d
HasLoads load (Leaf leaf) other = other ≡ Leaf leaf
HasLoads load (Unary operator a) other = other ≡ Unary operator a
HasLoads load (Binary operator a b) other = other ≡ Binary operator a b
HasLoads load (Octonary a b c d e f g h) other = other ≡ Octonary a b c d e f g h

-- the load at an address from the memory at an index, by such a node
abbrev pub load_node : List Run → List Term → (at address : ℕ) → TermNode → Term
load_node runs trees at address (Ternary Store below a b) =
    spec.normal_choose (spec.normal_equal (tree_at trees address) (tree_at trees a)) (tree_at trees b) (tree_at trees below)
load_node runs trees at address (Ternary Choose c x y) = spec.normal_choose (tree_at trees c) (tree_at trees x) (tree_at trees y)
load_node runs trees at address (Quaternary Over lower upper low high) =
    spec.normal_choose (spec.normal_and (spec.normal_not (spec.normal_less (tree_at trees address) (tree_at trees low)))
    (spec.normal_less (tree_at trees address) (tree_at trees high))) (tree_at trees upper) (tree_at trees lower)
load_node runs trees at address node = spec.load_of_variable runs (tree_at trees at) (tree_at trees address)
