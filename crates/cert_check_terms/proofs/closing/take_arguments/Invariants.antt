use Rattle.cert_check_terms.proofs.Stacks.{IsTakenSoFar}
use Rattle.cert_check_terms.proofs.closing.take_arguments.Given as goal

-- from the entries at the call on
abbrev pub invariant-loop-entry : goal.invariant-loop-entry
invariant-loop-entry l = IsTakenSoFar l.fn.entries.items l.entries.items l.arguments.items

abbrev pub decreases-loop-entry : goal.decreases-loop-entry
decreases-loop-entry l = goal.left-loop-entry l
