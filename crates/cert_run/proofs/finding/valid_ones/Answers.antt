use Rattle.cert_run.proofs.Searching.{more_valid}
use Rattle.cert_run.proofs.finding.valid_ones.Goals as goal

pub loop-one-preserved : goal.loop-one-preserved
loop-one-preserved c =
    more_valid c.args.found.now c.loop-one.one-index c.one-item.result c.loop-one.valid.items c.push.new.self.items c.is_valid.result c.loop-one-test.true c.one-item.is
    c.loop-one.invariant c.is_valid.ensures c.in-Ok-attempt.ensures.items
