use Rattle.term_core_spec.specs.Term.{not_term, less}
use Rattle.sim_rules_spec.specs.Calling.{at_entry, word, zone_from}
use Rattle.cert_check_relations.proofs.relations.outside.Goals as goal

pub returns : goal.returns
returns c =
    let begins = less (word c.args.first) (at_entry 2) in
    let last = word c.args.last in
    let from = zone_from c.args.stack in
    c.over_two.ensures (not_term begins) (less last from)
    (c.negated.ensures begins (c.over_two-begins_below.ensures (word c.args.first) (at_entry 2) c.word.ensures c.at_entry.ensures))
    (c.over_two-ends_below.ensures last from c.constant.ensures c.zone_from.ensures)
