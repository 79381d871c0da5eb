use Rattle.std.proofs.Common.{◌≡◌, ◌++◌, length, map}
use Rattle.std.specs.Vec.Iter.{into_iter_items, into_iter_len}
use Rattle.graph_core.specs.Graphs.{graph_of, graphs_of}
use Rattle.c_graph.specs.Seen.{points_in}
use Rattle.c_graph.specs.declared.source_graph.SourceGraph.{SourceGraph}
use Rattle.cert_check_frames.specs.Entries.{listed_places}
use Rattle.cert_run.proofs.source.add_graphs.Given as goal

-- what is left to add completes the whole
abbrev pub invariant-loop-one : goal.invariant-loop-one
invariant-loop-one l = record {
  long : into_iter_len l.one-iterator ≡ length (into_iter_items l.one-iterator);
  so_far : graphs_of l.graphs.items ++ map (λ (g : SourceGraph). graph_of g.graph) (into_iter_items l.one-iterator)
      ≡ graphs_of l.fn.graphs.items ++ map (λ (g : SourceGraph). graph_of g.graph) l.fn.made.items;
  places : map listed_places l.places.items ++ map (λ (g : SourceGraph). points_in g.points.items) (into_iter_items l.one-iterator)
      ≡ map listed_places l.fn.places.items ++ map (λ (g : SourceGraph). points_in g.points.items) l.fn.made.items;
}
