use Rattle.std.proofs.Common.{take}
use Rattle.cert_check_jobs.specs.Frames.{AreFrameGoals}
use Rattle.cert_check_jobs.proofs.frames.add_frame_goals.Given as goal

-- the goals so far
abbrev pub invariant-loop-index : goal.invariant-loop-index
invariant-loop-index l = AreFrameGoals l.function (take l.index l.goals) l.all.items
