use Rattle.std.proofs.Common.{◌≡◌, OnOk, [], ◌∷◌, ◌++◌, subst}
use Rattle.term_core_spec.specs.declared.Variable.{Variable}
use Rattle.cert_check_frames.specs.Facts.{facts_of, memory_over_zone}
use Rattle.cert_check_frames.proofs.facts.add_memory.Goals as goal

pub returns : goal.returns
returns c =
    let value = memory_over_zone c.args.stack in
    subst (λ (v : Variable). OnOk c.add_fact.result (facts_of c.add_fact.new.facts.items ≡ facts_of c.args.facts.now.items ++ record { variable = v; term = value } ∷ []))
    c.variable-memory.ensures (c.add_fact.ensures value c.over_zone.ensures)
