use Rattle.std.proofs.Common.{◌≡◌, ◌∙◌, ℕ, ◌==◌, true, false, get_or, map, Some, sym, ap, subst}
use Rattle.std.specs.List.{list_all}
use Rattle.term_core_spec.specs.Term.{Term}
use Rattle.term_bank.specs.Nodes.{tree_at}
use Rattle.term_bank.proofs.Growth.{held}
use Rattle.term_substitution.specs.States.{IsAt}
use Rattle.path_cond.proofs.Merging.{merged_is}
use Rattle.path_cond.proofs.merge.merged.Goals as goal

pub returns-then-are_same-clause-tree : goal.returns-then-are_same-clause-tree
returns-then-are_same-clause-tree c =
    let trees = c.args.bank.now in
    let terms = c.args.terms.now in
    let test : list_all (λ (i : ℕ). i == get_or terms 0 0) terms ≡ true = sym c.are_same.ensures ∙ c.if-are_same.true in
    held trees (get_or terms 0 0) (c.requires.terms 0 0 c.requires.some)
    ∙ ap Some (sym (merged_is trees c.are_distinct.ensures true (map (tree_at trees) c.args.conditions.now) terms 0 c.requires.some c.requires.terms test))

pub returns-clause-tree : goal.returns-clause-tree
returns-clause-tree c =
    let trees = c.args.bank.now in
    let terms = c.args.terms.now in
    let test : list_all (λ (i : ℕ). i == get_or terms 0 0) terms ≡ false = sym c.are_same.ensures ∙ c.if-are_same.false in
    subst (λ (t : Term). IsAt c.chosen.new.bank c.chosen.result t)
    (sym (merged_is trees c.are_distinct.ensures false (map (tree_at trees) c.args.conditions.now) terms 0 c.requires.some c.requires.terms test)) c.chosen.ensures.tree
