use Rattle.std.proofs.Common.{◌≡◌, ◌∙◌, ◌<◌, length, get_or, map, take, Some, sym, ap, ap₂, refl, subst, arith}
use Rattle.term_core_spec.specs.Term.{Term, or_term}
use Rattle.term_bank.specs.Nodes.{tree_at, Holds}
use Rattle.term_bank.proofs.Growth.{held}
use Rattle.path_cond.specs.Merged.{any_term}
use Rattle.path_cond.proofs.Banks.{extends_itself, extends_then, within_longer, within, tree_is, kept_tree}
use Rattle.path_cond.proofs.Merging.{any_first, any_more, any_all}
use Rattle.path_cond.proofs.merge.any_of.Goals as goal

pub loop-i-init : goal.loop-i-init
loop-i-init c =
    let trees = c.args.bank.now in
    let ids = c.args.conditions.now in
    let some : 0 < length ids = omega arith in
    record {
      extends = extends_itself trees;
      tree = held trees (get_or ids 0 0) (c.requires 0 0 some) ∙ ap Some (sym (any_first (tree_at trees) ids 1 0 refl some));
    }

pub add-requires-in-loop-i : goal.add-requires-in-loop-i
add-requires-in-loop-i c =
    let below : c.loop-i.i < length c.args.conditions.now = omega arith in (
      within c.loop-i.bank c.loop-i.any _ c.loop-i.invariant.tree,
      within_longer c.args.bank.now c.loop-i.bank (get_or c.args.conditions.now c.loop-i.i 0) c.loop-i.invariant.extends (c.requires c.loop-i.i 0 below),
    )

pub loop-i-preserved : goal.loop-i-preserved
loop-i-preserved c =
    let before = c.args.bank.now in
    let now = c.loop-i.bank in
    let ids = c.args.conditions.now in
    let below : c.loop-i.i < length ids = omega arith in
    let some : 0 < c.loop-i.i = omega arith in
    let any : tree_at now c.loop-i.any ≡ any_term (map (tree_at before) (take c.loop-i.i ids)) = tree_is now c.loop-i.any _ c.loop-i.invariant.tree in
    let next : tree_at now (get_or ids c.loop-i.i 0) ≡ tree_at before (get_or ids c.loop-i.i 0) =
    kept_tree before now (get_or ids c.loop-i.i 0) c.loop-i.invariant.extends (c.requires c.loop-i.i 0 below) in
    record {
      extends = extends_then before now c.add-in-loop-i.new.self c.loop-i.invariant.extends c.add-in-loop-i.ensures.extends;
      tree = c.in_ok-any.ensures.id ∙ ap Some (ap₂ (λ (s t : Term). or_term s t) any next ∙ sym (any_more (tree_at before) ids c.loop-i.i 0 some below));
    }

pub returns-clause-tree : goal.returns-clause-tree
returns-clause-tree c =
    subst (λ (t : Term). Holds c.loop-i.bank c.loop-i.any t) (any_all (tree_at c.args.bank.now) c.args.conditions.now c.loop-i.i (omega arith)) c.loop-i.invariant.tree
