use Rattle.std.proofs.Common.{◌≡◌, ◌∙◌, ℕ, ◌+◌, ◌-◌, ◌<◌, length, get_or, map, drop, Some, sym, ap, refl, arith}
use Rattle.term_core_spec.specs.Term.{choose}
use Rattle.term_bank.specs.Nodes.{tree_at}
use Rattle.term_bank.proofs.Growth.{held}
use Rattle.path_cond.specs.Merged.{chosen_term}
use Rattle.path_cond.proofs.Banks.{extends_itself, extends_then, within_longer, within, tree_is, kept_tree}
use Rattle.path_cond.proofs.Merging.{chosen_last, chosen_before}
use Rattle.path_cond.proofs.merge.chosen.Goals as goal

pub loop-i-init : goal.loop-i-init
loop-i-init c =
    let trees = c.args.bank.now in
    let terms = c.args.terms.now in
    let some : 0 < length terms = c.requires.some in
    let i : ℕ = length terms - 1 in
    let below : i < length terms = omega arith in
    record {
      within = below;
      extends = extends_itself trees;
      tree = held trees (get_or terms i 0) (c.requires.terms i 0 below) ∙ ap Some (sym (chosen_last (tree_at trees) c.args.conditions.now terms c.requires.many i 0 (omega arith)));
    }

pub add-requires : goal.add-requires
add-requires c =
    let i : ℕ = c.loop-i.i - 1 in
    let inside = c.loop-i.invariant.within in
    let many = c.requires.many in
    let below : i < length c.args.terms.now = omega arith in
    let below_too : i < length c.args.conditions.now = omega arith in (
      within_longer c.args.bank.now c.loop-i.bank (get_or c.args.conditions.now i 0) c.loop-i.invariant.extends (c.requires.conditions i 0 below_too),
      within_longer c.args.bank.now c.loop-i.bank (get_or c.args.terms.now i 0) c.loop-i.invariant.extends (c.requires.terms i 0 below),
      within c.loop-i.bank c.loop-i.chosen _ c.loop-i.invariant.tree,
    )

pub loop-i-preserved : goal.loop-i-preserved
loop-i-preserved c =
    let before = c.args.bank.now in
    let now = c.loop-i.bank in
    let conditions = c.args.conditions.now in
    let terms = c.args.terms.now in
    let i : ℕ = c.loop-i.i - 1 in
    let inside = c.loop-i.invariant.within in
    let many = c.requires.many in
    let below : i < length terms = omega arith in
    let below_too : i < length conditions = omega arith in
    let at : i + 1 ≡ c.loop-i.i = omega arith in
    let condition : tree_at now (get_or conditions i 0) ≡ tree_at before (get_or conditions i 0) =
    kept_tree before now (get_or conditions i 0) c.loop-i.invariant.extends (c.requires.conditions i 0 below_too) in
    let term : tree_at now (get_or terms i 0) ≡ tree_at before (get_or terms i 0) =
    kept_tree before now (get_or terms i 0) c.loop-i.invariant.extends (c.requires.terms i 0 below) in
    let rest : tree_at now c.loop-i.chosen ≡ chosen_term (map (tree_at before) (drop (i + 1) conditions)) (map (tree_at before) (drop (i + 1) terms)) =
    tree_is now c.loop-i.chosen _ c.loop-i.invariant.tree ∙ ap (λ (n : ℕ). chosen_term (map (tree_at before) (drop n conditions)) (map (tree_at before) (drop n terms))) (sym at) in
    let parts : choose (tree_at now (get_or conditions i 0)) (tree_at now (get_or terms i 0)) (tree_at now c.loop-i.chosen)
    ≡ choose (tree_at before (get_or conditions i 0)) (tree_at before (get_or terms i 0)) (chosen_term (map (tree_at before) (drop (i + 1) conditions)) (map (tree_at before) (drop (i + 1) terms))) =
    rw (condition, term, rest) refl in
    record {
      within = below;
      extends = extends_then before now c.add.new.self c.loop-i.invariant.extends c.add.ensures.extends;
      tree = c.in_ok-chosen.ensures.id ∙ ap Some (parts ∙ sym (chosen_before (tree_at before) conditions terms many i 0 (omega arith)));
    }
