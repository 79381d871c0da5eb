use Rattle.std.proofs.Common.{refl}
use Rattle.cert_check_jobs.proofs.Framed.{all_goals, goal_made, no_goals}
use Rattle.cert_check_jobs.proofs.frames.add_frame_goals.Goals as goal

pub loop-index-init : goal.loop-index-init
loop-index-init c = no_goals c.args.function.now _ c.args.all.now.items refl c.requires

pub loop-index-preserved : goal.loop-index-preserved
loop-index-preserved c =
    goal_made c.args.function.now c.args.goals.now c.loop-index.index c.index-goals-index.result c.loop-index.all.items c.push.new.self.items c.in-Ok-attempt.field-0 c.loop-index-test.true
    c.index-goals-index.is c.loop-index.invariant c.in-Ok-attempt-2.ensures.items c.in-Ok-attempt.ensures

pub returns : goal.returns
returns c = all_goals c.args.function.now c.args.goals.now c.loop-index.all.items c.loop-index.index c.loop-index-test.false c.loop-index.invariant
