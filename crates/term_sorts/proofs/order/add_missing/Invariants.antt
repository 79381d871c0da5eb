use Rattle.term_sorts.specs.Order.{IsWalk, work}
use Rattle.term_sorts.proofs.order.add_missing.Given as goal

abbrev pub invariant-steps : goal.invariant-steps
invariant-steps l = IsWalk l.bank l.id l.fn.found.keys l.found.keys l.waiting.items l.at

abbrev pub decreases-steps : goal.decreases-steps
decreases-steps l = work l.found.keys l.id l.at
