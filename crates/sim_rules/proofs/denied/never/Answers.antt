use Rattle.term_bank.proofs.Substitution.{kept, extends_through}
use Rattle.sim_rules.proofs.denied.never.Goals as goal

pub returns-3-clause-tree : goal.returns-3-clause-tree
returns-3-clause-tree c = λ w t is h.
    let b0 = c.args.bank.now in
    let b1 = c.condition.new.bank in
    let b2 = c.negation.new.bank in
    c.either.ensures.tree t _ (kept b0 b2 c.args.denied t (extends_through b0 b1 b2 c.condition.ensures.extends c.negation.ensures.extends) h)
    (c.in-Ok-attempt-stays_away.ensures.tree _ (c.in-Ok-attempt.ensures.tree w is))
