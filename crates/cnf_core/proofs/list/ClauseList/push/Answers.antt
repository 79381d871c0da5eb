use Rattle.std.proofs.Common.{rules, ◌++◌, ◌∷◌, [], ap, ◌∙◌}
use Rattle.cnf_core.proofs.Laid.{laid_more, clauses_more}
use Rattle.cnf_core.proofs.list.ClauseList.push.Goals as goal

pub invariant_of-self-2 : goal.invariant_of-self-2
invariant_of-self-2 c =
    laid_more c.self.inside.literals.items c.args.clause.now c.self.inside.ends.items c.extend_from_slice.new.self.items c.push.new.self.items
    c.self.invariant (search rules) (search rules)

pub returns-clause-added : goal.returns-clause-added
returns-clause-added c =
    clauses_more c.self.inside.literals.items c.args.clause.now c.self.inside.ends.items c.extend_from_slice.new.self.items c.push.new.self.items
    c.self.invariant (search rules) (search rules)
    ∙ ap (λ n. n.clauses ++ c.args.clause.now ∷ []) c.self.view_is
