use Rattle.cert_check_jobs.proofs.Framed.{all_lines, line_added}
use Rattle.cert_check_jobs.proofs.frames.add_trees.Goals as goal

pub loop-index-preserved : goal.loop-index-preserved
loop-index-preserved c =
    line_added c.args.bank.now c.args.ids.now c.loop-index.index 0 c.loop-index.trees.items c.push.new.self.items c.in-Ok-attempt.field-0 c.loop-index-test.true c.loop-index.invariant
    c.in-Ok-attempt-2.ensures.items c.in-Ok-attempt.ensures

pub returns : goal.returns
returns c = all_lines c.args.bank.now c.args.ids.now c.loop-index.index c.loop-index.trees.items c.loop-index-test.false c.loop-index.invariant
