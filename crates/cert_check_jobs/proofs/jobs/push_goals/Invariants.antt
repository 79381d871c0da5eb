use Rattle.std.proofs.Common.{◌≡◌, ◌++◌, ◌-◌, length, drop}
use Rattle.cert_check_jobs.specs.Jobs.{logs_last}
use Rattle.cert_check_jobs.proofs.jobs.push_goals.Given as goal

-- the last goals so far are added
abbrev pub invariant-loop-index : goal.invariant-loop-index
invariant-loop-index l = l.jobs.items ≡ l.fn.jobs.items ++ logs_last (drop (length l.goals - l.index) l.goals)
