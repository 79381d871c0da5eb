use Rattle.std.proofs.Common.{◌≡◌, Some, ap₂, ◌∙◌}
use Rattle.std.proofs.lemmas.Result.{IfOk-weaker}
use Rattle.term_core_spec.specs.Term.{Term, and_term}
use Rattle.term_bank.specs.Nodes.{tree_at}
use Rattle.term_bank.proofs.Substitution.{is_at}
use Rattle.sim_rules_terms.proofs.logic.both.Goals as goal

pub returns-clause-tree : goal.returns-clause-tree
returns-clause-tree c = λ s t of_a of_b.
    let a_is : tree_at c.args.bank.now c.args.a ≡ s = is_at c.args.bank.now c.args.a s of_a in
    let b_is : tree_at c.args.bank.now c.args.b ≡ t = is_at c.args.bank.now c.args.b t of_b in
    IfOk-weaker c.add.result _ _ (λ i at. at ∙ ap₂ (λ (x y : Term). Some (and_term x y)) a_is b_is) c.add.ensures.id
