use Rattle.term_bank.specs.Nodes.{tree_at}
use Rattle.word_steps_rules.specs.Bits.{rows_of}
use Rattle.word_steps_rules.proofs.Filled.{planned_more}
use Rattle.word_steps_rules.proofs.rows.add_bits.Goals as goal

pub loop-place-preserved : goal.loop-place-preserved
loop-place-preserved c =
    planned_more c.args.bank.now (rows_of c.args.rows.now) (tree_at c.args.bank.now c.args.id) c.args.plan c.loop-place.row.items c.push.new.self.items c.loop-place.place
    c.planned_bit.result c.loop-place.invariant c.in_ok-push.ensures.items c.planned_bit.ensures.within c.planned_bit.ensures.value
