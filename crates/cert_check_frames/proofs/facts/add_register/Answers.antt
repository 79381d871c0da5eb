use Rattle.std.proofs.Common.{◌≡◌, OnOk, [], ◌∷◌, ◌++◌, subst}
use Rattle.term_core_spec.specs.declared.Variable.{Variable}
use Rattle.sim_rules_spec.specs.Calling.{at_entry}
use Rattle.cert_check_frames.specs.Facts.{facts_of}
use Rattle.cert_check_frames.proofs.facts.add_register.Goals as goal

pub returns : goal.returns
returns c =
    let value = at_entry c.args.number in
    subst (λ (v : Variable). OnOk c.add_fact.result (facts_of c.add_fact.new.facts.items ≡ facts_of c.args.facts.now.items ++ record { variable = v; term = value } ∷ []))
    c.register.ensures (c.add_fact.ensures value c.at_entry.ensures)
