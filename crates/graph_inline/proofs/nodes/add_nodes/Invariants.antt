use Rattle.std.proofs.Common.{◌≡◌, map, take, drop}
use Rattle.graph_core_spec.specs.Graph.{with_nodes}
use Rattle.graph_core.specs.Graphs.{graph_of}
use Rattle.graph_inline.specs.Moved.{moved_node}
use Rattle.graph_inline.proofs.nodes.add_nodes.Given as goal

-- those before this one are added
abbrev pub invariant-loop-k : goal.invariant-loop-k
invariant-loop-k l = record {
  added : graph_of l.graph ≡ with_nodes (graph_of l.fn.graph) (map (moved_node l.placing) (drop l.first (take l.k (graph_of l.source).nodes)));
  trees : l.graph.trees ≡ l.fn.graph.trees;
}
