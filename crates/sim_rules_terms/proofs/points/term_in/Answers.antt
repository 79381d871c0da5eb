use Rattle.std.proofs.Common.{◌≡◌, ◌∙◌, Some, None, sym, ap, rules}
use Rattle.std.specs.HashMap.{get}
use Rattle.std.proofs.lemmas.Result.{IfOk-weaker}
use Rattle.term_core_spec.specs.Same.{same_variable}
use Rattle.term_core_spec.specs.Term.{Term, open_term}
use Rattle.term_bank.proofs.Growth.{held}
use Rattle.term_substitution.specs.States.{tree_or}
use Rattle.sim_rules_terms.proofs.points.term_in.Goals as goal

pub returns-in-Some-clause-tree : goal.returns-in-Some-clause-tree
returns-in-Some-clause-tree c = λ s is.
    let e : get same_variable c.args.terms.now c.args.variable ≡ Some c.in-Some.id.now = search rules in
    let below = c.requires c.args.variable c.in-Some.id.now e in
    held c.args.bank.now c.in-Some.id.now below
    ∙ ap Some (sym (ap (λ o. tree_or c.args.bank.now o (open_term c.args.variable)) e) ∙ is.current c.args.variable)

pub returns-in-None-clause-tree : goal.returns-in-None-clause-tree
returns-in-None-clause-tree c = λ s is.
    let e : get same_variable c.args.terms.now c.args.variable ≡ None = search rules in
    let same : open_term c.args.variable ≡ s c.args.variable = sym (ap (λ o. tree_or c.args.bank.now o (open_term c.args.variable)) e) ∙ is.current c.args.variable in
    IfOk-weaker c.add.result _ _ (λ i at. at ∙ ap (λ (t : Term). Some t) same) c.add.ensures.id

pub returns-in-Some-clause-within : goal.returns-in-Some-clause-within
returns-in-Some-clause-within c =
    let e : get same_variable c.args.terms.now c.args.variable ≡ Some c.in-Some.id.now = search rules in
    c.requires c.args.variable c.in-Some.id.now e
