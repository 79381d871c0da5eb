use Rattle.std.proofs.Common.{◌∙◌, ℕ, List, Vec, Global, ◌++◌, map, ap}
use Rattle.graph_core.specs.declared.graph.Graph as code
use Rattle.graph_core.specs.Graphs.{graph_of, graphs_of}
use Rattle.c_graph.specs.Seen.{points_in}
use Rattle.c_graph.specs.declared.source_graph.SourceGraph.{SourceGraph}
use Rattle.cert_check_frames.specs.Entries.{listed_places}
use Rattle.cert_check_frames.specs.declared.listed.PlaceNode.{PlaceNode}
use Rattle.cert_run.proofs.source.with_places.Goals as goal

pub returns-2-clause-graphs : goal.returns-2-clause-graphs
returns-2-clause-graphs c =
    c.in-Ok-attempt.ensures.graphs
    ∙ ap (λ (l : List code.Graph). graphs_of l ++ map (λ (g : SourceGraph). graph_of g.graph) c.args.made.items) c.new-graphs.ensures.items

pub returns-2-clause-places : goal.returns-2-clause-places
returns-2-clause-places c =
    c.in-Ok-attempt.ensures.places
    ∙ ap (λ (l : List (Vec PlaceNode Global)). map listed_places l ++ map (λ (g : SourceGraph). points_in g.points.items) c.args.made.items) c.new-places.ensures.items
