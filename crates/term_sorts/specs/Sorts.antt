-- The sorts of the first terms of a bank.
use Rattle.std.specs.Prelude.{◌≡◌, ℕ, ◌<◌, ◌≤◌, List, [], ◌∷◌, length, get_or, slice_get, Option, Some, None}
use Rattle.term_core_spec.specs.declared.Sort.{Sort}
use Rattle.term_core_spec.specs.declared.Sort.TheVariants as sort
use Rattle.term_core_spec.specs.declared.Width.TheVariants.{W64}
use Rattle.term_core_spec.specs.Term.{Term}
use Rattle.term_core_spec.specs.Sort.{sort_of, sort_of_atom, sort_of_unary, sort_of_binary, sort_of_ternary, sort_of_quaternary, with_one, with_two, with_three, with_four, sort_if, all_bytes}
use Rattle.term_bank.specs.declared.node.TermNode.{TermNode}
use Rattle.term_bank.specs.declared.node.TermNode.TheVariants as node
use Rattle.term_bank.specs.Nodes.{tree_at}

-- these are the sorts of the first terms
pub record AreSorts (trees : List Term) (sorts : List (Option Sort)) : Type 0 where
  pub within : length sorts ≤ length trees
  pub each : (i : ℕ) → i < length sorts → slice_get sorts i ≡ Some (sort_of (tree_at trees i))

-- more sorts, after those that were there
pub record HasMoreSorts (trees : List Term) (old new : List (Option Sort)) : Type 0 where
  pub sorts : AreSorts trees new
  pub longer : length old ≤ length new

-- ---- the sort of a node's term, from those of its arguments

abbrev pub sort_at : List (Option Sort) → ℕ → Option Sort
sort_at sorts i = get_or sorts i None

abbrev pub sort_of_node : List (Option Sort) → TermNode → Option Sort
sort_of_node sorts (node.Leaf leaf) = sort_of_atom leaf
sort_of_node sorts (node.Unary operator a) = with_one (sort_of_unary operator) (sort_at sorts a)
sort_of_node sorts (node.Binary operator a b) = with_two (sort_of_binary operator) (sort_at sorts a) (sort_at sorts b)
sort_of_node sorts (node.Ternary operator a b c) = with_three (sort_of_ternary operator) (sort_at sorts a) (sort_at sorts b) (sort_at sorts c)
sort_of_node sorts (node.Quaternary operator a b c d) =
    with_four (sort_of_quaternary operator) (sort_at sorts a) (sort_at sorts b) (sort_at sorts c) (sort_at sorts d)
sort_of_node sorts (node.Octonary a b c d e f g h) =
    sort_if (all_bytes (sort_at sorts a ∷ sort_at sorts b ∷ sort_at sorts c ∷ sort_at sorts d ∷ sort_at sorts e ∷ sort_at sorts f ∷ sort_at sorts g ∷ sort_at sorts h ∷ []))
    (sort.Word W64)
