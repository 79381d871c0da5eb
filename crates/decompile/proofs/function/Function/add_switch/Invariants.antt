use Rattle.std.proofs.Common.{◌≡◌}
use Rattle.graph_core_spec.specs.Graph.{with_nodes}
use Rattle.graph_core.specs.Graphs.{graph_of}
use Rattle.decompile.specs.Settings.{setting_of}
use Rattle.decompile.proofs.Tabled.{from_index}
use Rattle.decompile.proofs.function.Function.add_switch.Given as goal

-- with the tests that are left, all tests are added
abbrev pub invariant-loop-n : goal.invariant-loop-n
invariant-loop-n l =
    with_nodes (graph_of l.graph) (from_index (setting_of l.self) l.image l.item.address l.jump l.n)
    ≡ with_nodes (graph_of l.initial.graph) (from_index (setting_of l.self) l.image l.item.address l.jump 0)
