use Rattle.std.proofs.Common.{◌-◌, ◌^◌}
use Rattle.code_reach.proofs.Surveyed.{IsSurveyed}
use Rattle.code_reach.proofs.survey.survey.Given as goal

abbrev pub invariant-loop-next : goal.invariant-loop-next
invariant-loop-next l = IsSurveyed l.image l.entry l.next l.entries.keys l.first

abbrev pub decreases-loop-next : goal.decreases-loop-next
decreases-loop-next l = 2 ^ 64 - l.next
