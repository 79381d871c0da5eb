use Rattle.std.proofs.Common.{ℕ, ◌<◌, get_or}
use Rattle.proof_tree.specs.declared.frame.Goal.{Goal}
use Rattle.proof_tree.specs.Frames.{HasPaths}
use Rattle.sim_cut.proofs.EachGoal.{PassBoth}
use Rattle.sim_cut.proofs.allowed.let_pass.Given as goal

-- the goals so far let the cut pass
abbrev pub invariant-loop-goal : goal.invariant-loop-goal
invariant-loop-goal l = (paths : HasPaths l.frame) (k : ℕ) (d : Goal) → k < l.goal-index → PassBoth l.frame paths l.cut (get_or l.frame.goals.items k d)
