use Rattle.term_core_spec.specs.Term.{less}
use Rattle.sim_rules_spec.specs.Calling.{at_entry, word}
use Rattle.cert_check_relations.proofs.relations.has_room.Goals as goal

pub returns : goal.returns
returns c =
    c.negated.ensures (less (at_entry 2) (word c.args.stack)) (c.over_two-below.ensures (at_entry 2) (word c.args.stack) c.at_entry.ensures c.word.ensures)
