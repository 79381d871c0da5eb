use Rattle.std.proofs.Common.{[], ◌∷◌}
use Rattle.std.proofs.lemmas.Result.{on_ok_weaker}
use Rattle.c_graph_spec.specs.State.{zone_low, zone_high}
use Rattle.sim_rules_spec.specs.Calling.{at_entry, zone_from}
use Rattle.cert_check_frames.specs.Facts.{facts_of}
use Rattle.cert_check_relations.proofs.Grown.{one_then}
use Rattle.cert_check_frames.proofs.facts.add_zone.Goals as goal

pub returns-2 : goal.returns-2
returns-2 c =
    let f0 = facts_of c.args.facts.now.items in
    let f1 = facts_of c.add_fact.new.facts.items in
    let f2 = facts_of c.add_fact-2.new.facts.items in
    let from = zone_from c.args.stack in
    on_ok_weaker c.add_fact-2.result
    (one_then f0 f1 f2 (record { variable = zone_low; term = from } ∷ []) (record { variable = zone_high; term = at_entry 2 } ∷ []) (c.in-Ok-attempt.ensures from c.zone_from.ensures))
    (c.add_fact-2.ensures (at_entry 2) c.at_entry.ensures)
