use Rattle.std.proofs.Common.{◌≡◌, ◌+◌, map, drop}
use Rattle.term_core_spec.specs.Term.{Term}
use Rattle.term_bank.specs.Nodes.{tree_at}
use Rattle.graph_core_spec.specs.Graph.{with_nodes}
use Rattle.graph_core.specs.Graphs.{graph_of}
use Rattle.c_types_spec.specs.declared.Scalar.{Scalar}
use Rattle.c_graph_spec.specs.Layout as spec
use Rattle.c_graph.specs.Seen.{cases_in, case_tests}
use Rattle.c_graph.proofs.selection.choices.Given as goal

-- with the tests from this one on the graph is what it is to be
abbrev pub invariant-loop-i : goal.invariant-loop-i
invariant-loop-i l = record {
  trees : l.graph.trees ≡ l.fn.graph.trees;
  whole : (type : Scalar) (x : Term) → map (tree_at l.fn.graph.trees) l.tests ≡ case_tests type x (cases_in l.cases)
      → with_nodes (graph_of l.graph) (spec.selection type x (cases_in (drop l.i l.cases)) (l.at + l.i) l.otherwise)
      ≡ with_nodes (graph_of l.fn.graph) (spec.selection type x (cases_in l.cases) l.at l.otherwise);
}
