use Rattle.std.proofs.Common.{◌≡◌, ◌++◌, map, drop}
use Rattle.graph_core.specs.Graphs.{bindings_of}
use Rattle.decompile_spec.specs.Blocks.{entry_binding}
use Rattle.decompile.proofs.bindings.enter.Given as goal

abbrev pub invariant-loop-r : goal.invariant-loop-r
invariant-loop-r l =
    bindings_of l.bindings ++ map entry_binding (drop l.r-index l.numbers)
    ≡ bindings_of l.initial.bindings ++ map entry_binding l.numbers
