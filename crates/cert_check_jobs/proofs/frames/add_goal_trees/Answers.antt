use Rattle.std.proofs.Common.{length}
use Rattle.cert_check_jobs.proofs.Framed.{all_trees, goal_below, trees_added}
use Rattle.cert_check_jobs.proofs.frames.add_goal_trees.Goals as goal

pub goal_trees-requires : goal.goal_trees-requires
goal_trees-requires c =
    goal_below c.args.goals.now c.loop-index.index c.index-goals-index.result c.loop-index-test.true c.index-goals-index.is (length c.args.bank.now) c.requires.below

pub loop-index-preserved : goal.loop-index-preserved
loop-index-preserved c =
    trees_added c.args.goals.now c.loop-index.index c.index-goals-index.result c.loop-index-test.true c.index-goals-index.is c.args.bank.now c.loop-index.all.items c.push.new.self.items
    c.in-Ok-attempt.field-0 c.loop-index.invariant c.in-Ok-attempt-2.ensures.items c.in-Ok-attempt.ensures

pub returns : goal.returns
returns c = all_trees c.args.bank.now c.args.goals.now c.loop-index.all.items c.loop-index.index c.loop-index-test.false c.loop-index.invariant
