use Rattle.std.proofs.Common.{◌≡◌, ◌∙◌, Some, sym, ap, rules}
use Rattle.std.specs.HashMap.{get}
use Rattle.term_core_spec.specs.Same.{same_variable}
use Rattle.term_core_spec.specs.Term.{open_term}
use Rattle.term_bank.proofs.Growth.{held}
use Rattle.term_substitution.specs.States.{tree_or}
use Rattle.path_cond.proofs.walk.start_term.Goals as goal

pub returns-in-Some-clause-tree : goal.returns-in-Some-clause-tree
returns-in-Some-clause-tree c =
    let e : get same_variable c.args.start.now c.args.variable ≡ Some c.in-Some.id.now = search rules in
    let below = c.requires c.args.variable c.in-Some.id.now e in
    held c.args.bank.now c.in-Some.id.now below
    ∙ ap Some (sym (ap (λ o. tree_or c.args.bank.now o (open_term c.args.variable)) e))
