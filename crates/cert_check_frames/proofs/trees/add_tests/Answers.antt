use Rattle.std.proofs.Common.{false}
use Rattle.cert_check_frames.proofs.Made.{test_added, all_tests}
use Rattle.cert_check_frames.proofs.trees.add_tests.Goals as goal

pub loop-premise-preserved : goal.loop-premise-preserved
loop-premise-preserved c =
    test_added c.args.bank.now c.args.premises.now c.loop-premise.premise-index (record { test = 0; holds = false }) c.loop-premise.tests.items c.push.new.self.items c.in-Ok-attempt.field-0
    c.loop-premise-test.true c.loop-premise.invariant c.in-Ok-attempt-2.ensures.items c.in-Ok-attempt.ensures

pub returns : goal.returns
returns c = all_tests c.args.bank.now c.args.premises.now c.loop-premise.premise-index c.loop-premise.tests.items c.loop-premise-test.false c.loop-premise.invariant
