use Rattle.sim_rules.proofs.Cutting.{IsCutSoFar}
use Rattle.sim_rules.proofs.cut.cut_to.Given as goal

abbrev pub invariant-loop-node : goal.invariant-loop-node
invariant-loop-node l = IsCutSoFar l.found.keys l.point l.fn.shape.successors.items l.shape.successors.items l.node
