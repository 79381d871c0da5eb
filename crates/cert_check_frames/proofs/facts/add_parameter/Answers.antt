use Rattle.std.proofs.Common.{◌≡◌, true, IfOk, OnOk, [], ◌∷◌, ◌++◌, subst}
use Rattle.term_core_spec.specs.declared.Variable.{Variable}
use Rattle.std.proofs.lemmas.Result.{on_ok_weaker}
use Rattle.term_core_spec.specs.Term.{open_term, truth}
use Rattle.term_core.specs.Trees.{term_of}
use Rattle.c_graph_spec.specs.State.{is_set, local}
use Rattle.agreement_laws.specs.EntryFrame.{parameter}
use Rattle.cert_check_frames.specs.Facts.{facts_of}
use Rattle.cert_check_relations.proofs.Grown.{one_then}
use Rattle.cert_check_frames.proofs.facts.add_parameter.Goals as goal

pub returns-2 : goal.returns-2
returns-2 c =
    let n = c.args.number in
    let of = c.args.of in
    let f0 = facts_of c.args.facts.now.items in
    let f1 = facts_of c.add_fact.new.facts.items in
    let f2 = facts_of c.add_fact-2.new.facts.items in
    let term = open_term (parameter n of) in
    let set = subst (λ (v : Variable). f1 ≡ f0 ++ record { variable = v; term = truth true } ∷ []) c.is_set.ensures (c.in-Ok-attempt.ensures (truth true) c.leaf-set.ensures) in
    let value = subst (λ (v : Variable). IfOk c.open-value.result (λ x. term_of x.value ≡ open_term v)) c.parameter.ensures c.open-value.ensures in
    on_ok_weaker c.add_fact-2.result
    (one_then f0 f1 f2 (record { variable = is_set n; term = truth true } ∷ []) (record { variable = local n of; term = term } ∷ []) set)
    (subst (λ (v : Variable). OnOk c.add_fact-2.result (f2 ≡ f1 ++ record { variable = v; term = term } ∷ [])) c.local.ensures (c.add_fact-2.ensures term value))
