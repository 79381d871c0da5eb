use Rattle.std.proofs.Common.{◌≡◌, IfOk, subst}
use Rattle.term_core_spec.specs.declared.Variable.{Variable}
use Rattle.term_core_spec.specs.Term.{not_term, less, open_term}
use Rattle.term_core.specs.Trees.{term_of}
use Rattle.sim_rules_spec.specs.Points.{address}
use Rattle.sim_rules_terms.proofs.convention.inside.Goals as goal

pub returns : goal.returns
returns c =
    let from = term_of c.args.from.now in
    let to = term_of c.args.to.now in
    let first = subst (λ (v : Variable). IfOk c.open.result (λ x. term_of x.value ≡ open_term v)) c.address.ensures c.open.ensures in
    let second = subst (λ (v : Variable). IfOk c.open-2.result (λ x. term_of x.value ≡ open_term v)) c.address-2.ensures c.open-2.ensures in
    c.over_two.ensures (not_term (less (open_term address) from)) (less (open_term address) to)
    (c.negated-from_there.ensures (less (open_term address) from) (c.over_two-below.ensures (open_term address) from first c.copy.ensures))
    (c.over_two-below_end.ensures (open_term address) to second c.copy-2.ensures)
