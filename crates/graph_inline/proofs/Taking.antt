-- What was taken of a bank.
use Rattle.std.proofs.Common.{◌≡◌, ◌∙◌, ℕ, ◌<◌, Bool, true, List, [], ◌∷◌, length, Option, Some, None, refl, sym, ap, subst, arith}
use Rattle.std.specs.List.{All}
use Rattle.std.proofs.lemmas.List.Elements.{All-head, All-tail}
use Rattle.term_core_spec.specs.declared.Variable.{Variable}
use Rattle.term_core_spec.specs.declared.Atom.{Atom}
use Rattle.term_core_spec.specs.declared.Atom.TheVariants as atom
use Rattle.term_core_spec.specs.Term as tree
use Rattle.term_core_spec.specs.Term.{Term}
use Rattle.term_core_spec.specs.Substitution.{renamed, renamed_atom}
use Rattle.term_bank.specs.declared.node.TermNode.{TermNode}
use Rattle.term_bank.specs.declared.node.TermNode.TheVariants.{Leaf, Unary, Binary, Ternary, Quaternary, Octonary}
use Rattle.term_bank.specs.Nodes.{IsNode, tree_at, build, Holds, Extends}
use Rattle.term_bank.specs.Subterms.{arguments_of}
use Rattle.term_bank.proofs.Growth.{within_added, length-Extends}
use Rattle.term_bank.proofs.Substitution.{is_at, kept}
use Rattle.graph_inline.specs.Taken.{named_variable, named_term, id_at, over, IsTaken, AreTaken}
use Rattle.graph_inline.specs.Marks.{is_marked}

-- ---- names

same_atom : (leaf : Atom) → renamed_atom (λ v. v) leaf ≡ leaf
same_atom (atom.Truth value) = refl
same_atom (atom.Constant width number) = refl
same_atom (atom.Open variable) = refl

-- where each variable keeps its name, the term stays
same_names : (t : Term) → renamed (λ v. v) t ≡ t
unfolding renamed
same_names (tree.Leaf leaf) = ap tree.Leaf (same_atom leaf)
same_names (tree.Unary operator a) = rw (same_names a) refl
same_names (tree.Binary operator a b) = rw (same_names a, same_names b) refl
same_names (tree.Ternary operator a b c) = rw (same_names a, same_names b, same_names c) refl
same_names (tree.Quaternary operator a b c d) = rw (same_names a, same_names b, same_names c, same_names d) refl
same_names (tree.Octonary a b c d e f g h) =
    rw (same_names a, same_names b, same_names c, same_names d, same_names e, same_names f, same_names g, same_names h) refl

pub named_is : (instance : Option ℕ) (t : Term) → named_term instance t ≡ renamed (named_variable instance) t
named_is None t = sym (same_names t)
named_is (Some instance) t = refl

-- ---- a node over what was taken of its arguments

unfoldable pub AllIn : (ℕ → Type 0) → List ℕ → Type 0
AllIn P [] = Unit {0}
AllIn P (id ∷ ids) = P id × AllIn P ids

module _ (instance : Option ℕ) (from trees : List Term) (table : List ℕ) where
  abbrev Taken : ℕ → Type 0
  Taken id = IsTaken instance from trees table id

  pub within : (id : ℕ) → Taken id → id_at table id < length trees
  within id h = within_added trees (id_at table id) (named_term instance (tree_at from id)) h.holds

  pub over_within : (node : TermNode) → AllIn Taken (arguments_of node) → IsNode (length trees) (over instance table node)
  unfolding AllIn
  over_within (Leaf leaf) all = tt
  over_within (Unary operator a) all = within a all.0
  over_within (Binary operator a b) all = (within a all.0, within b all.1.0)
  over_within (Ternary operator a b c) all = (within a all.0, within b all.1.0, within c all.1.1.0)
  over_within (Quaternary operator a b c d) all = (within a all.0, within b all.1.0, within c all.1.1.0, within d all.1.1.1.0)
  over_within (Octonary a b c d e f g h) all = (
    within a all.0,
    within b all.1.0,
    within c all.1.1.0,
    within d all.1.1.1.0,
    within e all.1.1.1.1.0,
    within f all.1.1.1.1.1.0,
    within g all.1.1.1.1.1.1.0,
    within h all.1.1.1.1.1.1.1.0,
  )

  same_tree : (id : ℕ) → Taken id → tree_at trees (id_at table id) ≡ renamed (named_variable instance) (tree_at from id)
  same_tree id h = is_at trees (id_at table id) (named_term instance (tree_at from id)) h.holds ∙ named_is instance (tree_at from id)

  renamed_built : (node : TermNode) → AllIn Taken (arguments_of node) → build trees (over instance table node) ≡ renamed (named_variable instance) (build from node)
  unfolding AllIn renamed
  renamed_built (Leaf leaf) all = refl
  renamed_built (Unary operator a) all = rw (same_tree a all.0) refl
  renamed_built (Binary operator a b) all = rw (same_tree a all.0, same_tree b all.1.0) refl
  renamed_built (Ternary operator a b c) all = rw (same_tree a all.0, same_tree b all.1.0, same_tree c all.1.1.0) refl
  renamed_built (Quaternary operator a b c d) all =
      rw (same_tree a all.0, same_tree b all.1.0, same_tree c all.1.1.0, same_tree d all.1.1.1.0) refl
  renamed_built (Octonary a b c d e f g h) all =
      rw (same_tree a all.0, same_tree b all.1.0, same_tree c all.1.1.0, same_tree d all.1.1.1.0, same_tree e all.1.1.1.1.0, same_tree f all.1.1.1.1.1.0, same_tree g all.1.1.1.1.1.1.0, same_tree h all.1.1.1.1.1.1.1.0) refl

  pub over_built : (node : TermNode) → AllIn Taken (arguments_of node) → build trees (over instance table node) ≡ named_term instance (build from node)
  over_built node all = renamed_built node all ∙ sym (named_is instance (build from node))

-- ---- as the bank grows

pub taken_later : (instance : Option ℕ) (from old new : List Term) (table : List ℕ) (id : ℕ) → Extends old new → IsTaken instance from old table id → IsTaken instance from new table id
taken_later instance from old new table id grows h = record { listed = h.listed; holds = kept old new (id_at table id) (named_term instance (tree_at from id)) grows h.holds }

-- what is marked and before was taken
pub each_taken : (instance : Option ℕ) (from trees : List Term) (marks : List Bool) (table : List ℕ) (n : ℕ) → length table ≡ n → AreTaken instance from trees marks table → (ids : List ℕ)
    → AllIn (λ a. (a < n) × (is_marked marks a ≡ true)) ids → AllIn (IsTaken instance from trees table) ids
unfolding AllIn
each_taken instance from trees marks table n long taken [] all = tt
each_taken instance from trees marks table n long taken (id ∷ ids) all =
    (taken id (omega (arith, long, all.0.0)) all.0.1, each_taken instance from trees marks table n long taken ids all.1)
