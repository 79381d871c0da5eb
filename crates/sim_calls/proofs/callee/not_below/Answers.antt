use Rattle.term_core_spec.specs.Term.{less}
use Rattle.sim_calls.proofs.callee.not_below.Goals as goal

pub returns : goal.returns
returns c = λ s t of_first of_second. c.negated.ensures (less s t) (c.over_two-below.ensures s t of_first of_second)
