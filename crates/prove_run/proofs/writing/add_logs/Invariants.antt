use Rattle.std.proofs.Common.{take}
use Rattle.prove_run_spec.specs.Written.{logs_lines}
use Rattle.prove_run.specs.Found.{logs_of}
use Rattle.prove_run.specs.Written.{AddsLines}
use Rattle.prove_run.proofs.writing.add_logs.Given as goal

-- the logs so far are added
abbrev pub invariant-loop-index : goal.invariant-loop-index
invariant-loop-index l = AddsLines l.fn.cert l.cert (logs_lines (logs_of (take l.index l.logs)))
