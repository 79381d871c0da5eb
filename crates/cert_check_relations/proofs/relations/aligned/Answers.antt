use Rattle.term_core_spec.specs.Term.{bit_and}
use Rattle.sim_rules_spec.specs.Calling.{at_entry, word}
use Rattle.cert_check_relations.proofs.relations.aligned.Goals as goal

pub returns : goal.returns
returns c =
    let r = at_entry c.args.register in
    c.over_two.ensures (bit_and r (word c.args.mask)) (word 0) (c.over_two-masked.ensures r (word c.args.mask) c.at_entry.ensures c.word.ensures) c.word-2.ensures
