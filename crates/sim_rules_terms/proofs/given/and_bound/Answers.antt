use Rattle.term_core_spec.specs.Term.{not_term}
use Rattle.term_bank.proofs.Substitution.{kept, extends_through}
use Rattle.sim_rules_terms.proofs.given.and_bound.Goals as goal

pub returns-clause-tree : goal.returns-clause-tree
returns-clause-tree c = λ w t is h.
    let b0 = c.args.bank.now in
    let b1 = c.condition.new.bank in
    let b2 = c.negation.new.bank in
    c.both.ensures.tree t _ (kept b0 b2 c.args.first t (extends_through b0 b1 b2 c.condition.ensures.extends c.negation.ensures.extends) h)
    (c.in_ok-kept.ensures.tree _ (c.in_ok-broken.ensures.tree w is))
