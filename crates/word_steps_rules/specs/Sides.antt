-- Words of one width, and the sides of an `eq` of words, by ids.
use Rattle.std.specs.Prelude.{◌≡◌, ℕ, ◌<◌, Bool, true, false, List, Option, Some, None}
use Rattle.term_core_spec.specs.declared.Sort.{Sort}
use Rattle.term_core_spec.specs.declared.Sort.TheVariants as sort
use Rattle.term_core_spec.specs.declared.BinaryOperator.{BinaryOperator}
use Rattle.term_core_spec.specs.declared.BinaryOperator.TheVariants as binary
use Rattle.term_core_spec.specs.Term.{Term, equal}
use Rattle.term_core_spec.specs.Sort.{sort_of_binary, with_two}
use Rattle.term_bank.specs.declared.node.TermNode.{TermNode}
use Rattle.term_bank.specs.declared.node.TermNode.TheVariants as node
use Rattle.term_bank.specs.Nodes.{tree_at}
use Rattle.word_steps_spec.specs.Numbers.{has_sort}
use Rattle.word_steps_spec.specs.Sides.{are_words, sides_of}
use Rattle.word_steps_rules.specs.declared.words.Sides.{Sides}
use Rattle.word_steps_rules.specs.Views.{sides_in}

abbrev pub is_word_sort : Option Sort → Bool
is_word_sort (Some (sort.Word width)) = true
is_word_sort (Some sort.Truth) = false
is_word_sort (Some sort.Memory) = false
is_word_sort None = false

-- of two truth values, or of two words of one width
abbrev pub are_alike_sorts : Option Sort → Option Sort → Bool
are_alike_sorts a b = has_sort (with_two (sort_of_binary binary.Equal) a b) sort.Truth

abbrev pub sides_by : BinaryOperator → (left right : ℕ) → Option Sides
sides_by binary.Equal left right = Some (record { left = left; right = right })
sides_by binary.And left right = None
sides_by binary.Or left right = None
sides_by binary.Less left right = None
sides_by binary.Load left right = None
sides_by binary.Join left right = None
sides_by (binary.Word operator) left right = None

abbrev pub sides_of_node : TermNode → Option Sides
sides_of_node (node.Binary operator left right) = sides_by operator left right
sides_of_node (node.Leaf leaf) = None
sides_of_node (node.Unary operator a) = None
sides_of_node (node.Ternary operator a b c) = None
sides_of_node (node.Quaternary operator a b c d) = None
sides_of_node (node.Octonary a b c d e f g h) = None

-- the sides of a term that is an `eq`, which are before it
pub record IsEqualityOf (trees : List Term) (id : ℕ) (s : Sides) : Type 0 where
  pub is : tree_at trees id ≡ equal (tree_at trees s.left) (tree_at trees s.right)
  pub left : s.left < id
  pub right : s.right < id

abbrev pub IsEquality : List Term → ℕ → Option Sides → Type 0
IsEquality trees id (Some s) = IsEqualityOf trees id s
IsEquality trees id None = sides_of (tree_at trees id) ≡ None

-- the same of an `eq` of words
pub record AreSidesOf (trees : List Term) (id : ℕ) (s : Sides) : Type 0 where
  pub is : sides_of (tree_at trees id) ≡ Some (sides_in trees s)
  pub words : are_words (tree_at trees s.left) (tree_at trees s.right) ≡ true
  pub left : s.left < id
  pub right : s.right < id

abbrev pub AreSides : List Term → ℕ → Option Sides → Type 0
AreSides trees id (Some s) = AreSidesOf trees id s
AreSides trees id None = sides_of (tree_at trees id) ≡ None
