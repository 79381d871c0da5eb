use Rattle.std.proofs.Common.{◌≡◌, ◌∙◌, length, ap, sym, subst}
use Rattle.clause_check_spec.specs.Step.{outcome, Follows}
use Rattle.clause_check.specs.Kept.{IsKept}
use Rattle.clause_check.proofs.Keeping.{kept_more, outcome_of_parts}
use Rattle.clause_check.proofs.log.Log.step.Goals as goal

pub invariant_of-self : goal.invariant_of-self
invariant_of-self c =
    subst (λ n. IsKept n c.self.inside.given c.self.inside.clauses.clauses) (sym c.follows.ensures.len) c.self.invariant

pub invariant_of-self-2 : goal.invariant_of-self-2
invariant_of-self-2 c =
    let follows : outcome (length c.self.inside.stamps) c.self.inside.clauses.clauses c.args.literals.now c.args.hints.now ≡ Follows =
    sym c.in_ok-follows.ensures.outcome
    in
    subst (λ n. IsKept n c.self.inside.given c.push.new.self.clauses) (sym c.follows.ensures.len)
    (subst (IsKept (length c.self.inside.stamps) c.self.inside.given) (sym c.in_ok-push.ensures.added)
    (kept_more (length c.self.inside.stamps) c.self.inside.given c.self.inside.clauses.clauses c.args.literals.now c.args.hints.now c.self.invariant follows))

pub returns-clause-follows : goal.returns-clause-follows
returns-clause-follows c =
    outcome_of_parts c.args.self.now (length c.self.inside.stamps) c.self.inside.given c.self.inside.clauses.clauses c.args.literals.now c.args.hints.now
    (ap (λ l. l.cnf.variables) c.self.view_is) (ap (λ l. l.cnf.clauses) c.self.view_is) (ap (λ l. l.added) c.self.view_is)
    ∙ sym c.in_ok-follows.ensures.outcome
