use Rattle.std.proofs.Common.{◌≡◌, ◌++◌, take}
use Rattle.cert_check_jobs.specs.Drafts.{holding}
use Rattle.cert_check_jobs.proofs.drafts.add_holding.Given as goal

-- the lines so far are added
abbrev pub invariant-loop-index : goal.invariant-loop-index
invariant-loop-index l = l.premises.items ≡ l.fn.premises.items ++ holding (take l.index l.lines)
