use Rattle.std.proofs.Common.{length}
use Rattle.word_steps_rules.specs.Arguments.{Expanding, work}
use Rattle.word_steps_rules.proofs.commuting.expand.Given as goal

-- the ids before this one are no more to be taken apart
abbrev pub invariant-loop-at : goal.invariant-loop-at
invariant-loop-at l = Expanding l.bank l.operator (length l.sorts) l.fn.terms.items l.terms.items l.at

abbrev pub decreases-loop-at : goal.decreases-loop-at
decreases-loop-at l = work (length l.terms.items) l.at
