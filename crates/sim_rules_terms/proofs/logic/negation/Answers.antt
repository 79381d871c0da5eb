use Rattle.std.proofs.Common.{◌≡◌, Some, ap, ◌∙◌}
use Rattle.std.proofs.lemmas.Result.{IfOk-weaker}
use Rattle.term_core_spec.specs.Term.{not_term}
use Rattle.term_bank.specs.Nodes.{tree_at}
use Rattle.term_bank.proofs.Substitution.{is_at}
use Rattle.sim_rules_terms.proofs.logic.negation.Goals as goal

pub returns-clause-tree : goal.returns-clause-tree
returns-clause-tree c = λ s h.
    let is : tree_at c.args.bank.now c.args.a ≡ s = is_at c.args.bank.now c.args.a s h in
    IfOk-weaker c.add.result _ _ (λ i at. at ∙ ap (λ t. Some (not_term t)) is) c.add.ensures.id
