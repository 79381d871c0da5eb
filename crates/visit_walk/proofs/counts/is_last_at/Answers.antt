use Rattle.visit_walk.proofs.Counting.{ended-place}
use Rattle.visit_walk.proofs.counts.is_last_at.Goals as goal

pub returns-in-Ret : goal.returns-in-Ret
returns-in-Ret c = ended-place c.args.place c.args.marks.now c.args.counts.now c.in-Ret.is
