use Rattle.std.proofs.Common.{◌≡◌, ◌++◌, true, map, subst}
use Rattle.std.specs.List.{fold}
use Rattle.term_core_spec.specs.Term.{truth}
use Rattle.term_core_spec.specs.Substitution.{substituted}
use Rattle.term_substitution.specs.States.{IsAt}
use Rattle.sim_rules_spec.specs.Rules.{terms_at_start, unbroken_if, unfailed_if}
use Rattle.sim_rules_terms.proofs.Folds.{fold_last}
use Rattle.sim_rules_terms.proofs.Later.{seen_later}
use Rattle.sim_rules_terms.proofs.given.premises.Goals as goal

pub and_unfailed_if-requires-clause-sight : goal.and_unfailed_if-requires-clause-sight
and_unfailed_if-requires-clause-sight c =
    (c.requires.source.0, seen_later c.args.bank.now c.bounded_premises.new.bank c.bounded_premises.ensures.extends c.requires.source.0 c.args.source c.requires.source.1)

pub returns-clause-tree : goal.returns-clause-tree
returns-clause-tree c = λ o f a d opening start of_a of_d.
    let b0 = c.args.bank.now in
    let b1 = c.bounded_premises.new.bank in
    let A = map (substituted (terms_at_start o)) f.start.premises in
    let B = unbroken_if a.way a.visits f.start.binary_bounds in
    let C = unbroken_if d.way d.visits f.start.source_bounds in
    let D = unfailed_if d.way d.visits in
    let first = c.in_ok-given.ensures.tree o f a d opening start of_a of_d in
    let second = c.and_unfailed_if.ensures.tree d _ (seen_later b0 b1 c.bounded_premises.ensures.extends d c.args.source of_d) first in
    subst (IsAt c.and_unfailed_if.new.bank c.and_unfailed_if.result) (fold_last (truth true) A B C D) second
