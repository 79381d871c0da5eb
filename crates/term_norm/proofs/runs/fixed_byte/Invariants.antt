use Rattle.std.proofs.Common.{◌≡◌, drop}
use Rattle.memory_spec.specs.Runs as fixed_runs
use Rattle.memory_spec.specs.Viewed.{runs_of}
use Rattle.term_norm.proofs.runs.fixed_byte.Given as goal

abbrev pub invariant-loop-run : goal.invariant-loop-run
invariant-loop-run l = fixed_runs.fixed_byte (runs_of l.runs) l.address ≡ fixed_runs.fixed_byte (runs_of (drop l.run-index l.runs)) l.address
