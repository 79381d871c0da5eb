use Rattle.std.proofs.Common.{◌≡◌, ◌+◌, map, drop}
use Rattle.term_bank.specs.Nodes.{tree_at}
use Rattle.graph_core_spec.specs.Graph.{with_nodes}
use Rattle.graph_core.specs.Graphs.{graph_of}
use Rattle.c_graph_spec.specs.Layout as spec
use Rattle.c_graph.proofs.emission.chain.Given as goal

-- with the tests from this one on the graph is what it is to be
abbrev pub invariant-loop-i : goal.invariant-loop-i
invariant-loop-i l = record {
  trees : l.graph.trees ≡ l.fn.graph.trees;
  whole : with_nodes (graph_of l.graph) (spec.chain (map (tree_at l.fn.graph.trees) (drop l.i l.tests)) (l.at + l.i) l.to)
      ≡ with_nodes (graph_of l.fn.graph) (spec.chain (map (tree_at l.fn.graph.trees) l.tests) l.at l.to);
}
