use Rattle.std.proofs.Common.{sym, subst}
use Rattle.term_substitution.specs.States.{IsAt}
use Rattle.sim_rules.specs.declared.point.Claim.{Claim}
use Rattle.sim_rules.specs.Stops.{binary_visits, shown_term, source_visits, stop_at}
use Rattle.sim_rules.proofs.point.shown.Goals as goal

pub returns-in-ComesToo-clause-tree : goal.returns-in-ComesToo-clause-tree
returns-in-ComesToo-clause-tree c = λ t k a d is.
    let m = c.args.meeting.now in
    subst (λ (claim : Claim). IsAt c.comes_too.new.bank c.comes_too.result (shown_term claim t k a d (binary_visits m) (source_visits m) (stop_at a d c.args.point.now))) (sym c.in-ComesToo.is)
    (c.comes_too.ensures.tree t k a d is)

pub returns-in-EndsAlike-clause-tree : goal.returns-in-EndsAlike-clause-tree
returns-in-EndsAlike-clause-tree c = λ t k a d is.
    let m = c.args.meeting.now in
    subst (λ (claim : Claim). IsAt c.ends_alike.new.bank c.ends_alike.result (shown_term claim t k a d (binary_visits m) (source_visits m) (stop_at a d c.args.point.now))) (sym c.in-EndsAlike.is)
    (c.ends_alike.ensures.tree t k a d is)
