use Rattle.std.proofs.Common.{sym, ◌∙◌}
use Rattle.c_run_value.proofs.Lookups.{fixed-here, fixed-later, fixed-past}
use Rattle.c_run_value.proofs.setting.is_fixed.Goals as goal

pub returns-then-has_byte : goal.returns-then-has_byte
returns-then-has_byte c =
    sym (fixed-here c.args.runs.now c.loop-run.run-index c.run-item.result c.args.address c.has_byte.result c.loop-run-test.true c.run-item.is c.has_byte.ensures c.if-has_byte.true)
    ∙ c.loop-run.invariant

pub loop-run-preserved : goal.loop-run-preserved
loop-run-preserved c =
    sym (fixed-later c.args.runs.now c.loop-run.run-index c.run-item.result c.args.address c.has_byte.result c.loop-run-test.true c.run-item.is c.has_byte.ensures c.if-has_byte.false)
    ∙ c.loop-run.invariant

pub returns : goal.returns
returns c = sym (fixed-past c.args.runs.now c.loop-run.run-index c.args.address c.loop-run-test.false) ∙ c.loop-run.invariant
