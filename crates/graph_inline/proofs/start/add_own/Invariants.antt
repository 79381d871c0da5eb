use Rattle.std.proofs.Common.{◌≡◌, ◌++◌, List, None, map, take}
use Rattle.term_core_spec.specs.Term.{Term}
use Rattle.graph_core_spec.specs.Graph.{Binding}
use Rattle.graph_core.specs.Graphs.{AreShared, Grows}
use Rattle.graph_core.specs.Shared.{shared_binding_of}
use Rattle.graph_inline_spec.specs.Inlined.{start_binding}
use Rattle.graph_inline.specs.Moved.{BindingsTaken}
use Rattle.graph_inline.proofs.start.add_own.Given as goal

-- those before this one are bound
abbrev pub invariant-loop-variable : goal.invariant-loop-variable
invariant-loop-variable l = record {
  found : (from : List Term) (before : List Binding) → BindingsTaken None from l.fn.graph.trees l.table l.inputs → AreShared l.fn.graph.trees before l.fn.found.items
      → AreShared l.graph.trees (before ++ map (start_binding l.instance (map (shared_binding_of from) l.inputs)) (take l.variable-index l.own)) l.found.items;
  grows : Grows l.fn.graph l.graph;
}
