use Rattle.std.proofs.Common.{◌∙◌, List, ◌++◌, ap}
use Rattle.agreement_laws.specs.EntryFrame.{local_facts, zone_facts}
use Rattle.cert_check_frames.specs.declared.listed.Fact.{Fact as CodeFact}
use Rattle.cert_check_frames.specs.Facts.{facts_of}
use Rattle.cert_check_relations.proofs.Grown.{one_then}
use Rattle.cert_check_frames.proofs.facts.source_facts.Goals as goal

pub returns-3 : goal.returns-3
returns-3 c =
    let l = local_facts 0 c.args.parameters.now c.args.locals.now in
    let z = zone_facts c.args.stack in
    one_then (facts_of c.new-facts.result.items) (facts_of c.add_locals.new.facts.items) (facts_of c.add_zone.new.facts.items) l z c.in-Ok-attempt.ensures c.in-Ok-attempt-2.ensures
    ∙ ap (λ (f : List CodeFact). facts_of f ++ (l ++ z)) c.new-facts.ensures.items
