use Rattle.sim_rules.proofs.denied.denied.Goals as goal

pub returns-2-clause-tree : goal.returns-2-clause-tree
returns-2-clause-tree c = λ o a d opening are. c.negation.ensures.tree _ (c.in-Ok-attempt.ensures.tree o a d opening are)
