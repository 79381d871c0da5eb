use Rattle.term_core_spec.specs.Term.{subtract}
use Rattle.term_core.specs.Trees.{term_of}
use Rattle.sim_rules_spec.specs.Calling.{register, word}
use Rattle.sim_calls.proofs.callee.has_room.Goals as goal

pub returns : goal.returns
returns c =
    let from = term_of c.args.from.now in
    c.not_below.ensures (subtract (register 2) from) (word c.args.stack) (c.over_two-room.ensures (register 2) from c.stack_pointer.ensures c.copy.ensures) c.word.ensures
