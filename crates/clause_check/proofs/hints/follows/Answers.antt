use Rattle.std.proofs.Common.{rules, ◌≡◌, ◌∙◌, length, map, replicate, None, true, ap, sym, subst}
use Rattle.std.proofs.lemmas.List.{length-replicate}
use Rattle.std.specs.Prelude.{IsTrue}
use Rattle.clause_check_spec.specs.Clause.{are_of, negation}
use Rattle.clause_check_spec.specs.Step.{are_fit}
use Rattle.clause_check.proofs.Propagation.{unfit_outcome, fit_outcome}
use Rattle.clause_check.proofs.hints.follows.Goals as goal

pub deny-requires : goal.deny-requires
deny-requires c =
    let len = ap length c.clear.ensures ∙ length-replicate (length c.args.stamps.now) None in
    c.clear.ensures ∙ ap (λ n. replicate n None) (sym len)

pub propagate-requires : goal.propagate-requires
propagate-requires c =
    let len = c.deny.ensures.len ∙ ap length c.clear.ensures ∙ length-replicate (length c.args.stamps.now) None in
    subst (λ n. are_of n c.args.clauses.now.clauses ≡ true) (sym len) c.requires

pub returns-then-not-deny-clause-outcome : goal.returns-then-not-deny-clause-outcome
returns-then-not-deny-clause-outcome c =
    let len = ap length c.clear.ensures ∙ length-replicate (length c.args.stamps.now) None in
    sym (unfit_outcome (length c.args.stamps.now) c.args.clauses.now.clauses c.args.literals.now c.args.hints.now
    (ap (λ n. are_fit n c.args.literals.now) (sym len) ∙ sym c.deny.ensures.fit ∙ c.if-not-deny.true))

pub returns-clause-outcome : goal.returns-clause-outcome
returns-clause-outcome c =
    let len = ap length c.clear.ensures ∙ length-replicate (length c.args.stamps.now) None in
    let yes : IsTrue c.deny.result = search rules in
    c.propagate.ensures.outcome (map negation c.args.literals.now) (c.deny.ensures.reported yes)
    ∙ sym (fit_outcome (length c.args.stamps.now) c.args.clauses.now.clauses c.args.literals.now c.args.hints.now
    (ap (λ n. are_fit n c.args.literals.now) (sym len) ∙ sym c.deny.ensures.fit ∙ c.if-not-deny.false))
