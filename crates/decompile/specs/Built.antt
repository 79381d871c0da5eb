-- What calls answer that build bindings, or add nodes.
use Rattle.std.specs.Prelude.{◌≡◌, Vec, Result, IfOk, List}
use Rattle.std.specs.Global.{Global}
use Rattle.graph_core_spec.specs.Graph as spec
use Rattle.graph_core.specs.declared.graph.Binding.{Binding}
use Rattle.graph_core.specs.declared.graph.Graph.{Graph}
use Rattle.graph_core.specs.Graphs.{bindings_of, graph_of}
use Rattle.decompile_laws.specs.Layout.{Item, block}
use Rattle.decompile.specs.declared.function.Function.{Function}
use Rattle.code_reach_spec.specs.Code.{Flow}
use Rattle.decompile.specs.declared.items.Item.{Item as CodeItem}
use Rattle.decompile.specs.Items.{item_with}
use Rattle.decompile.specs.Settings.{setting_of}

-- the call answers these bindings; or it is out of memory
abbrev pub BuildsBindings : {E : Type 0} → Result (Vec Binding Global) E → List spec.Binding → Type 0
BuildsBindings result bindings = IfOk result (λ found. bindings_of found ≡ bindings)

-- the nodes of an instruction are added to the graph
abbrev pub AddsBlock : Function → (old new : Graph) → Item → Type 0
AddsBlock f old new item = graph_of new ≡ spec.with_nodes (graph_of old) (block (setting_of f) item)

-- those of an instruction with this flow
abbrev pub AddsFlow : Function → (old new : Graph) → CodeItem → Flow → Type 0
AddsFlow f old new item flow = AddsBlock f old new (item_with item flow)
