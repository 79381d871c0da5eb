use Rattle.std.proofs.Common.{ap, subst, sym}
use Rattle.prove_run_spec.specs.Written.{log_lines}
use Rattle.prove_run.specs.Written.{AddsLines}
use Rattle.prove_run.proofs.Adding.{no_logs, logs_more, all_logs}
use Rattle.prove_run.proofs.writing.add_logs.Goals as goal

pub loop-index-init : goal.loop-index-init
loop-index-init c = no_logs c.args.cert.now

pub loop-index-preserved : goal.loop-index-preserved
loop-index-preserved c =
    logs_more c.args.cert.now c.loop-index.cert c.add_log.new.cert c.args.logs.now c.loop-index.index c.index-logs-index.result _ c.loop-index.invariant
    (subst (λ log. AddsLines c.loop-index.cert c.add_log.new.cert (log_lines log)) c.as_slice.ensures.value c.in-Ok-attempt.ensures)
    c.loop-index-test.true c.index-logs-index.is

pub returns : goal.returns
returns c = all_logs c.args.cert.now c.loop-index.cert c.args.logs.now c.loop-index.index c.loop-index-test.false c.loop-index.invariant
