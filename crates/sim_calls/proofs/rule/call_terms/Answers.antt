use Rattle.std.proofs.Common.{◌≡◌, List, refl}
use Rattle.term_core_spec.specs.Term.{Term}
use Rattle.term_core.specs.Trees.{term_of}
use Rattle.sim_calls.proofs.Exits.{own_convention}
use Rattle.sim_calls.proofs.rule.call_terms.Goals as goal

pub terms_over-requires-clause-cut : goal.terms_over-requires-clause-cut
terms_over-requires-clause-cut c =
    let k = own_convention (term_of c.args.setup.now.zone_from.now) (term_of c.args.setup.now.zone_to.now) in
    record { convention = k; from_is = refl; to_is = refl; is_cut = c.in_ok-cut.ensures.cut k refl refl }

pub returns-clause-terms : goal.returns-clause-terms
returns-clause-terms c = λ k s setup callee. c.terms_over.ensures.terms k s setup callee (c.in_ok-cut.ensures.cut k setup.from_is setup.to_is)
