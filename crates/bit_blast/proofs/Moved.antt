-- A node over the indices of its arguments has the same tree.
use Rattle.std.proofs.Common.{◌≡◌, ◌<◌, ℕ, true, false, List, [], ◌∷◌, length, map, Option, Some, None, refl, sym, subst, arith}
use Rattle.std.specs.Prelude.{nat_eq, unwrap_or, IsSome}
use Rattle.std.specs.HashMap.{HashMap, get}
use Rattle.std.proofs.lemmas.List.{length-map}
use Rattle.std.proofs.lemmas.Option.{slice_get_within, get_or_from_slice_get}
use Rattle.term_core_spec.specs.declared.Atom.TheVariants as atom
use Rattle.term_core_spec.specs.Term as tree
use Rattle.term_core_spec.specs.Term.{Term}
use Rattle.term_bank.specs.declared.node.TermNode.{TermNode}
use Rattle.term_bank.specs.declared.node.TermNode.TheVariants.{Leaf, Unary, Binary, Ternary, Quaternary, Octonary}
use Rattle.term_bank.specs.Nodes.{IsNode, tree_at, build, Holds}
use Rattle.bit_blast_spec.specs.Circuits.{Bits}
use Rattle.bit_blast_spec.specs.Goal.{Table, is_there}
use Rattle.bit_blast.specs.Steps.{arguments, AllThere}
use Rattle.bit_blast.specs.Terms.{terms_in}
use Rattle.bit_blast.proofs.Tables.{there_at}
use Rattle.bit_blast.specs.Indices.{children, IsIndexed, AllIndexed, index_in, moved, AreIndices}

pub arguments_of : (trees : List Term) (node : TermNode) → arguments (build trees node) ≡ map (tree_at trees) (children node)
arguments_of trees (Leaf leaf) = refl
arguments_of trees (Unary operator a) = refl
arguments_of trees (Binary operator a b) = refl
arguments_of trees (Ternary operator a b c) = refl
arguments_of trees (Quaternary operator a b c d) = refl
arguments_of trees (Octonary a b c d e f g h) = refl

some_value : (found : Option ℕ) → IsSome found → found ≡ Some (unwrap_or found 0)
some_value None h = absurd (cc)
some_value (Some index) h = refl

module _ {S : Type 0} (trees : List Term) (indices : HashMap ℕ ℕ S) (table : Table) (are : AreIndices trees indices table) where
  -- a term is at its index
  pub consistent_at : (id : ℕ) → IsIndexed indices id → Holds (terms_in table) (index_in indices id) (tree_at trees id)
  consistent_at id indexed = are id (index_in indices id) (some_value (get nat_eq indices id) indexed)

  pub is_within : (id : ℕ) → IsIndexed indices id → index_in indices id < length table
  is_within id indexed =
      omega (arith, slice_get_within (terms_in table) (index_in indices id) (tree_at trees id) (consistent_at id indexed), length-map table (λ (e : Term × Bits). e.0))

  pub same_tree : (id : ℕ) → IsIndexed indices id → tree_at (terms_in table) (index_in indices id) ≡ tree_at trees id
  same_tree id indexed = get_or_from_slice_get (terms_in table) (index_in indices id) (tree_at trees id) (tree.Leaf (atom.Truth false)) (consistent_at id indexed)

  pub indexed_there : (id : ℕ) → IsIndexed indices id → is_there (tree_at trees id) table ≡ true
  indexed_there id indexed = there_at table (tree_at trees id) (index_in indices id) (consistent_at id indexed)

  pub same_build : (node : TermNode) → AllIndexed indices (children node) → build (terms_in table) (moved indices node) ≡ build trees node
  same_build (Leaf leaf) all = refl
  same_build (Unary operator a) all = let ea = same_tree a all.0 in cc
  same_build (Binary operator a b) all =
      let ea = same_tree a all.0 in
      let eb = same_tree b all.1.0 in
      cc
  same_build (Ternary operator a b c) all =
      let ea = same_tree a all.0 in
      let eb = same_tree b all.1.0 in
      let ec = same_tree c all.1.1.0 in
      cc
  same_build (Quaternary operator a b c d) all =
      let ea = same_tree a all.0 in
      let eb = same_tree b all.1.0 in
      let ec = same_tree c all.1.1.0 in
      let ed = same_tree d all.1.1.1.0 in
      cc
  same_build (Octonary a b c d e f g h) all =
      let ea = same_tree a all.0 in
      let eb = same_tree b all.1.0 in
      let ec = same_tree c all.1.1.0 in
      let ed = same_tree d all.1.1.1.0 in
      let ee = same_tree e all.1.1.1.1.0 in
      let ef = same_tree f all.1.1.1.1.1.0 in
      let eg = same_tree g all.1.1.1.1.1.1.0 in
      let eh = same_tree h all.1.1.1.1.1.1.1.0 in
      cc

  pub is_node : (node : TermNode) → AllIndexed indices (children node) → IsNode (length table) (moved indices node)
  is_node (Leaf leaf) all = tt
  is_node (Unary operator a) all = is_within a all.0
  is_node (Binary operator a b) all = (is_within a all.0, is_within b all.1.0)
  is_node (Ternary operator a b c) all = (is_within a all.0, is_within b all.1.0, is_within c all.1.1.0)
  is_node (Quaternary operator a b c d) all = (is_within a all.0, is_within b all.1.0, is_within c all.1.1.0, is_within d all.1.1.1.0)
  is_node (Octonary a b c d e f g h) all = (
    is_within a all.0,
    is_within b all.1.0,
    is_within c all.1.1.0,
    is_within d all.1.1.1.0,
    is_within e all.1.1.1.1.0,
    is_within f all.1.1.1.1.1.0,
    is_within g all.1.1.1.1.1.1.0,
    is_within h all.1.1.1.1.1.1.1.0,
  )

  indexed_all : (ids : List ℕ) → AllIndexed indices ids → AllThere (map (tree_at trees) ids) table
  indexed_all [] all = tt
  indexed_all (id ∷ ids) all = (indexed_there id all.0, indexed_all ids all.1)

  pub arguments_there : (node : TermNode) → AllIndexed indices (children node) → AllThere (arguments (build trees node)) table
  arguments_there node all = subst (λ terms. AllThere terms table) (sym (arguments_of trees node)) (indexed_all (children node) all)
