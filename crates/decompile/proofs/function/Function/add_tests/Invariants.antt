use Rattle.std.proofs.Common.{◌≡◌, map, length}
use Rattle.graph_core_spec.specs.Graph.{with_nodes}
use Rattle.graph_core.specs.Graphs.{graph_of, boxed_term}
use Rattle.decompile.specs.Settings.{setting_of, asks}
use Rattle.decompile.proofs.function.Function.add_tests.Given as goal

abbrev pub invariant-loop-test : goal.invariant-loop-test
invariant-loop-test l =
    (l.index ≡ length l.yielded)
    × (graph_of l.graph ≡ with_nodes (graph_of l.initial.graph) (asks (setting_of l.self) l.address 0 (map boxed_term l.yielded)))
