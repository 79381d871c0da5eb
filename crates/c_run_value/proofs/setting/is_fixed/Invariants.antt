use Rattle.std.proofs.Common.{◌≡◌, drop}
use Rattle.std.specs.Prelude.{is_some}
use Rattle.memory_spec.specs.Runs.{fixed_byte}
use Rattle.memory_spec.specs.Viewed.{runs_of}
use Rattle.c_run_value.proofs.setting.is_fixed.Given as goal

abbrev pub invariant-loop-run : goal.invariant-loop-run
invariant-loop-run l = is_some (fixed_byte (runs_of (drop l.run-index l.runs)) l.address) ≡ is_some (fixed_byte (runs_of l.runs) l.address)
