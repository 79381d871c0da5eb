-- The runs that the program keeps, as runs of bytes.
use Rattle.std.specs.Prelude.{List, map}
use Rattle.memory_spec.specs.Runs.{Run}
use Rattle.memory_spec.specs.declared.Run.{Run as KeptRun}

abbrev pub run_of : KeptRun → Run
run_of run = record { start = run.start; bytes = run.bytes.items }

abbrev pub runs_of : List KeptRun → List Run
runs_of runs = map run_of runs
