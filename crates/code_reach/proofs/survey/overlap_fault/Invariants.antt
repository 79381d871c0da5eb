use Rattle.code_reach.proofs.Overlaps.{IsSwept}
use Rattle.code_reach.proofs.survey.overlap_fault.Given as goal

abbrev pub invariant-loop-entry : goal.invariant-loop-entry
invariant-loop-entry l = IsSwept l.image l.entries l.entry-index l.end
