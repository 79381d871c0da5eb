use Rattle.std.proofs.Common.{length, ap, sym, ◌∙◌}
use Rattle.clause_check_spec.specs.Clause.{satisfies}
use Rattle.clause_check.proofs.Keeping.{unsatisfied_by_empty}
use Rattle.clause_check.proofs.log.Log.is_closed.Goals as goal

pub returns-then-last-self-clause-unsatisfied : goal.returns-then-last-self-clause-unsatisfied
returns-then-last-self-clause-unsatisfied c = λ yes values.
    ap (λ log. satisfies values log.cnf.clauses) (sym c.self.view_is)
    ∙ unsatisfied_by_empty (length c.self.inside.stamps) c.self.inside.given c.self.inside.clauses.clauses c.in-Some.last c.self.invariant (c.is_empty.ensures.0 yes) values
