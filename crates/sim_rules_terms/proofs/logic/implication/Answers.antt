use Rattle.term_core_spec.specs.Term.{not_term}
use Rattle.term_bank.proofs.Substitution.{kept}
use Rattle.sim_rules_terms.proofs.logic.implication.Goals as goal

pub returns-clause-tree : goal.returns-clause-tree
returns-clause-tree c = λ s t of_a of_b.
    c.either.ensures.tree (not_term s) t (c.in_ok-not_a.ensures.tree s of_a) (kept c.args.bank.now c.negation.new.bank c.args.b t c.negation.ensures.extends of_b)
