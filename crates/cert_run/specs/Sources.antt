-- The graphs of the source, and the nodes of their places.
use Rattle.std.specs.Prelude.{◌≡◌, map}
use Rattle.c_types_spec.specs.Core.{Typed}
use Rattle.c_graph_spec.specs.Guards.{Place}
use Rattle.c_graph_spec.specs.SourceGraph as spec
use Rattle.graph_core.specs.Graphs.{graphs_of}
use Rattle.cert_check_frames.specs.Entries.{listed_places}
use Rattle.cert_run.specs.declared.source.Sources.{Sources}

-- they are those of all bodies, in order, where globals and fixed bytes are these
pub record AreSources (unit : Typed) (p : Place) (s : Sources) : Type 0 where
  pub graphs_are : graphs_of s.graphs.items ≡ spec.graphs_of unit p
  pub places_are : map listed_places s.places.items ≡ map (spec.points_of unit p) unit.bodies
