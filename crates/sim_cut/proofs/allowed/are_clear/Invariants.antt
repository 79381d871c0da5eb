use Rattle.std.proofs.Common.{ℕ, ◌<◌, get_or}
use Rattle.proof_tree.specs.declared.frame.Goal.{Goal}
use Rattle.sim_cut.proofs.EachGoal.{Apart}
use Rattle.sim_cut.proofs.allowed.are_clear.Given as goal

-- the goals so far are elsewhere
abbrev pub invariant-loop-goal : goal.invariant-loop-goal
invariant-loop-goal l = (k : ℕ) (d : Goal) → k < l.goal-index → Apart l.frame l.nodes (get_or l.frame.goals.items k d)
