use Rattle.std.proofs.Common.{◌≡◌, ◌+◌, IfOk, [], ◌∷◌, ◌++◌, OnOk, subst}
use Rattle.term_core_spec.specs.declared.Variable.{Variable}
use Rattle.term_core.specs.Trees.{term_of}
use Rattle.agreement_laws.specs.EntryFrame.{parameter, widened}
use Rattle.cert_check_frames.specs.Facts.{facts_of}
use Rattle.cert_check_frames.proofs.facts.add_argument.Goals as goal

pub returns : goal.returns
returns c =
    let of = c.args.of in
    let number = c.args.number in
    let value = subst (λ (v : Variable). IfOk c.widened-value.result (λ x. term_of x.value ≡ widened of v)) c.parameter.ensures c.widened-value.ensures in
    subst (λ (v : Variable). OnOk c.add_fact.result (facts_of c.add_fact.new.facts.items ≡ facts_of c.args.facts.now.items ++ record { variable = v; term = widened of (parameter number of) } ∷ []))
    c.register.ensures (c.add_fact.ensures (widened of (parameter number of)) value)
