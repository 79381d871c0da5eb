use Rattle.std.proofs.Common.{◌≡◌, ◌++◌, take}
use Rattle.cert_check_jobs.specs.Cuts.{goals_seen}
use Rattle.cert_check_jobs.proofs.cuts.add_goals.Given as goal

-- the same goals so far are added
abbrev pub invariant-loop-index : goal.invariant-loop-index
invariant-loop-index l = goals_seen l.all.items ≡ goals_seen l.fn.all.items ++ goals_seen (take l.index l.goals)
