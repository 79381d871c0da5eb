-- Sorts of the terms of a bank, as it grows.
use Rattle.std.proofs.Common.{◌≡◌, ◌∙◌, ℕ, ◌+◌, ◌<◌, inl, inr, List, [], ◌∷◌, ◌++◌, length, Option, Some, None, refl, sym, ap, subst, arith, length-append}
use Rattle.std.specs.Prelude.{slice_get}
use Rattle.std.proofs.lemmas.Bool.{cases_lt}
use Rattle.std.proofs.lemmas.Option.{get_or_from_slice_get}
use Rattle.term_core_spec.specs.declared.Sort.{Sort}
use Rattle.term_core_spec.specs.Term.{Term}
use Rattle.term_core_spec.specs.Sort.{sort_of}
use Rattle.term_bank.specs.declared.node.TermNode.{TermNode}
use Rattle.term_bank.specs.declared.node.TermNode.TheVariants.{Leaf, Unary, Binary, Ternary, Quaternary, Octonary}
use Rattle.term_bank.specs.Nodes.{IsNode, tree_at, build, Holds, Extends}
use Rattle.term_bank.proofs.Growth.{slice_get-front, slice_get-seam, tree_at-front, length-Extends}
use Rattle.term_bank.proofs.Substitution.{is_at}
use Rattle.term_sorts.specs.Sorts.{AreSorts, HasMoreSorts, sort_at, sort_of_node}

-- ---- the sort of a node

module _ (trees : List Term) (sorts : List (Option Sort)) (are : AreSorts trees sorts) where
  pub sort_there : (i : ℕ) → i < length sorts → sort_at sorts i ≡ sort_of (tree_at trees i)
  sort_there i less = get_or_from_slice_get sorts i (sort_of (tree_at trees i)) None (are.each i less)

  pub node_sorted : (node : TermNode) → IsNode (length sorts) node → sort_of_node sorts node ≡ sort_of (build trees node)
  unfolding sort_of
  node_sorted (Leaf leaf) h = refl
  node_sorted (Unary operator a) h = let ea = sort_there a h in cc
  node_sorted (Binary operator a b) h =
      let ea = sort_there a h.0 in
      let eb = sort_there b h.1 in
      cc
  node_sorted (Ternary operator a b c) h =
      let ea = sort_there a h.0 in
      let eb = sort_there b h.1 in
      let ec = sort_there c h.2 in
      cc
  node_sorted (Quaternary operator a b c d) h =
      let ea = sort_there a h.0 in
      let eb = sort_there b h.1 in
      let ec = sort_there c h.2 in
      let ed = sort_there d h.3 in
      cc
  node_sorted (Octonary a b c d e f g j) h =
      rw (sort_there a h.0, sort_there b h.1, sort_there c h.2, sort_there d h.3, sort_there e h.4, sort_there f h.5, sort_there g h.6, sort_there j h.7) refl

  -- one more
  module _ (node : TermNode) (s : Option Sort) (more : List (Option Sort)) (fits : IsNode (length sorts) node) (holds : Holds trees (length sorts) (build trees node))
      (is : s ≡ sort_of_node sorts node) (grows : more ≡ sorts ++ s ∷ []) (inside : length sorts < length trees) where
    last_is : s ≡ sort_of (tree_at trees (length sorts))
    last_is = is ∙ node_sorted node fits ∙ ap sort_of (sym (is_at trees (length sorts) (build trees node) holds))

    each_of : (i : ℕ) → i < length (sorts ++ s ∷ []) → slice_get (sorts ++ s ∷ []) i ≡ Some (sort_of (tree_at trees i))
    each_of i less = elim (cases_lt i (length sorts)) [
      | inl before ↦ slice_get-front sorts (s ∷ []) i (sort_of (tree_at trees i)) (are.each i before)
      | inr past ↦
          let long : length (sorts ++ s ∷ []) ≡ length sorts + 1 = length-append sorts (s ∷ []) in
          let at : length sorts ≡ i = omega arith in
          subst (λ (n : ℕ). slice_get (sorts ++ s ∷ []) n ≡ Some (sort_of (tree_at trees n))) at (slice_get-seam sorts [] s ∙ ap Some last_is)
    ]

    pub sorts_push : HasMoreSorts trees sorts more
    sorts_push =
        let long : length (sorts ++ s ∷ []) ≡ length sorts + 1 = length-append sorts (s ∷ []) in
        subst (HasMoreSorts trees sorts) (sym grows) (record { sorts = record { within = omega arith; each = each_of }; longer = omega arith })

-- ---- growth

pub sorts_later : (old new : List Term) (sorts : List (Option Sort)) → Extends old new → AreSorts old sorts → AreSorts new sorts
sorts_later old new sorts grows are =
    let longer = length-Extends old new grows in
    let within = are.within in
    record {
      within = omega arith;
      each = λ i less. are.each i less ∙ ap (λ (t : Term). Some (sort_of t)) (sym (same i (omega arith)));
    }
  where
    same : (i : ℕ) → i < length old → tree_at new i ≡ tree_at old i
    same i less = ap (λ (trees : List Term). tree_at trees i) grows.1 ∙ tree_at-front old grows.0 i less
