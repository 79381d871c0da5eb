use Rattle.std.proofs.Common.{◌≡◌, map, drop}
use Rattle.graph_core_spec.specs.Graph.{with_nodes}
use Rattle.graph_core.specs.Graphs.{graph_of}
use Rattle.decompile_laws.specs.Layout.{blocks, laid}
use Rattle.decompile.specs.Items.{item_of}
use Rattle.decompile.specs.Settings.{setting_of}
use Rattle.decompile.proofs.function.Function.add_blocks.Given as goal

abbrev pub invariant-loop-item : goal.invariant-loop-item
invariant-loop-item l =
    with_nodes (graph_of l.graph) (blocks (setting_of l.self) (map (item_of l.image) (drop l.item-index l.items))) ≡ laid (setting_of l.self) (map (item_of l.image) l.items)
