use Rattle.std.proofs.Common.{◌≡◌, ◌++◌, map, drop}
use Rattle.term_core.specs.Trees.{term_of}
use Rattle.graph_core.specs.Graphs.{boxed_term}
use Rattle.decompile_spec.specs.InstructionTerms.{avoids}
use Rattle.decompile_accesses.specs.Runs.{run_of}
use Rattle.decompile_accesses.proofs.accesses.avoid.Given as goal

abbrev pub invariant-loop-run : goal.invariant-loop-run
invariant-loop-run l =
    map boxed_term l.tests.items ++ map (avoids (term_of l.a) (term_of l.e)) (map run_of (drop l.run-index l.runs))
    ≡ map boxed_term l.initial.tests.items ++ map (avoids (term_of l.a) (term_of l.e)) (map run_of l.runs)
