-- The flat term of a term, when the walk is over.
use Rattle.std.proofs.Common.{◌≡◌, ℕ, ◌<◌, List, map, length, Option, sym, ap, ◌∙◌, subst}
use Rattle.term_core_spec.specs.Term.{Term, not_term, or_term}
use Rattle.term_bank.specs.Nodes.{tree_at, Extends}
use Rattle.mem_terms_spec.specs.Flat.{FlatLoad, loads_of, without_loads, flat_loads, consistent, flat_of}
use Rattle.mem_terms.specs.declared.ids.LoadIds.{LoadIds}
use Rattle.mem_terms.specs.Ids.{IsTreeAt, load_at, AreWithin}
use Rattle.mem_terms.specs.Walk.{flat_id}
use Rattle.mem_terms.proofs.Trees.{extends_then, within_longer, kept_tree, tree_as, loads_later, all_within_later}
use Rattle.mem_terms.proofs.Steps.{IsWalked}

module _ (b0 b1 b2 : List Term) (goal : ℕ) (done : List (Option ℕ)) (ids loads : List LoadIds) (first : Extends b0 b1) (below : goal < length b0)
    (w : IsWalked b1 b2 goal done ids) (loads_is : loads ≡ ids) where
  pub loads_within : AreWithin (length b2) loads
  loads_within = subst (AreWithin (length b2)) (sym loads_is) w.within

  module _ (b3 b4 : List Term) (without all term : ℕ) (without_is : without ≡ flat_id done goal) (second : Extends b2 b3)
      (all_at : IsTreeAt b3 all (consistent (map (load_at b2) loads))) (third : Extends b3 b4) where
    pub without_within : without < length b3
    without_within = within_longer b2 b3 without second (subst (λ p. p < length b2) (sym without_is) w.flat.within)

    same_goal : tree_at b1 goal ≡ tree_at b0 goal
    same_goal = kept_tree b0 b1 goal first below

    loads_flat : map (load_at b2) loads ≡ flat_loads (tree_at b0 goal)
    loads_flat = ap (map (load_at b2)) loads_is ∙ w.loads_are ∙ ap flat_loads same_goal

    without_tree : tree_at b3 without ≡ without_loads (loads_of (tree_at b0 goal)) (tree_at b0 goal)
    without_tree =
        kept_tree b2 b3 without second (subst (λ p. p < length b2) (sym without_is) w.flat.within)
        ∙ ap (tree_at b2) without_is ∙ w.flat.tree ∙ ap (λ t. without_loads (loads_of t) t) same_goal

    pub is_flat : IsTreeAt b4 term (or_term (not_term (tree_at b3 all)) (tree_at b3 without)) → IsTreeAt b4 term (flat_of (tree_at b0 goal))
    is_flat at =
        tree_as b4 term (or_term (not_term (tree_at b3 all)) (tree_at b3 without)) (flat_of (tree_at b0 goal))
        (ap (λ t. or_term (not_term t) (tree_at b3 without)) (all_at.tree ∙ ap consistent loads_flat)
        ∙ ap (λ t. or_term (not_term (consistent (flat_loads (tree_at b0 goal)))) t) without_tree) at

    later : Extends b2 b4
    later = extends_then b2 b3 b4 second third

    pub all_loads_within : AreWithin (length b4) loads
    all_loads_within = all_within_later b2 b4 loads later loads_within

    pub all_loads_are : map (load_at b4) loads ≡ flat_loads (tree_at b0 goal)
    all_loads_are = loads_later b2 b4 loads later loads_within ∙ loads_flat
