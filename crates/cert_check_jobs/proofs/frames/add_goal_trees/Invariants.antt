use Rattle.std.proofs.Common.{◌≡◌, map, take}
use Rattle.cert_check_jobs.specs.Cuts.{goals_in, goals_seen}
use Rattle.cert_check_jobs.specs.Frames.{goal_given}
use Rattle.cert_check_jobs.proofs.frames.add_goal_trees.Given as goal

-- the goals so far
abbrev pub invariant-loop-index : goal.invariant-loop-index
invariant-loop-index l = map goal_given l.all.items ≡ goals_in l.bank (goals_seen (take l.index l.goals))
