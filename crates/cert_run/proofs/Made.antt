-- The sources that are made are those of all bodies.
use Rattle.std.proofs.Common.{◌≡◌, ◌∙◌, List, map, Ok, Err, ap, subst}
use Rattle.std.specs.Prelude.{Result, IfOk}
use Rattle.c_types_spec.specs.Core.{Typed}
use Rattle.c_graph_spec.specs.Guards.{Place}
use Rattle.c_graph_spec.specs.SourceGraph as spec
use Rattle.graph_core.specs.Graphs.{graph_of, graphs_of}
use Rattle.c_graph.specs.Seen.{points_in}
use Rattle.c_graph.specs.declared.source_graph.SourceGraph.{SourceGraph}
use Rattle.cert_check_frames.specs.Entries.{listed_places}
use Rattle.cert_run.specs.declared.source.Sources.{Sources}
use Rattle.cert_run.specs.Sources.{AreSources}

pub are_sources : {E : Type 0} (r : Result Sources E) (unit : Typed) (p : Place) (made : List SourceGraph)
    → map (λ (g : SourceGraph). graph_of g.graph) made ≡ spec.graphs_of unit p → map (λ (g : SourceGraph). points_in g.points.items) made ≡ map (spec.points_of unit p) unit.bodies
    → IfOk r (λ all. graphs_of all.graphs.items ≡ map (λ (g : SourceGraph). graph_of g.graph) made)
    → IfOk r (λ all. map listed_places all.places.items ≡ map (λ (g : SourceGraph). points_in g.points.items) made) → IfOk r (AreSources unit p)
are_sources (Ok all) unit p made graphs points graphs_are places_are = record { graphs_are = graphs_are ∙ graphs; places_are = places_are ∙ points }
are_sources (Err error) unit p made graphs points graphs_are places_are = tt
