use Rattle.std.proofs.Common.{refl}
use Rattle.cert_check_jobs.specs.Cuts.{goals_seen}
use Rattle.cert_check_jobs.proofs.Framed.{all_seen, none_seen, seen_added}
use Rattle.cert_check_jobs.proofs.cuts.add_goals.Goals as goal

pub loop-index-init : goal.loop-index-init
loop-index-init c = none_seen (goals_seen c.args.all.now.items) _ refl

pub loop-index-preserved : goal.loop-index-preserved
loop-index-preserved c =
    seen_added c.args.goals.now c.loop-index.index c.index-goals-index.result c.loop-index-test.true c.index-goals-index.is (goals_seen c.args.all.now.items) c.loop-index.all.items
    c.push.new.self.items c.in-Ok-attempt.field-0 c.loop-index.invariant c.in-Ok-attempt-2.ensures.items c.in-Ok-attempt.ensures

pub returns : goal.returns
returns c = all_seen (goals_seen c.args.all.now.items) c.args.goals.now c.loop-index.all.items c.loop-index.index c.loop-index-test.false c.loop-index.invariant
