use Rattle.std.proofs.Common.{◌∙◌, map, ap}
use Rattle.term_core.specs.Assignment.{assignment_of}
use Rattle.term_core.specs.Values.{value_of}
use Rattle.discharge.proofs.False.{false_there}
use Rattle.discharge.proofs.rounds.falsify.Goals as goal

pub returns-then-is_false : goal.returns-then-is_false
returns-then-is_false c = λ yes.
    false_there (assignment_of c.args.assignment.now) c.args.bank.now c.as_slice.result.now c.args.form (ap (map value_of) c.as_slice.ensures.value ∙ c.in-Ok-attempt.ensures)
    (c.is_false.ensures c.if-is_false.true)
