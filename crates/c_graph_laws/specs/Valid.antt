-- What it means that the graphs of a unit are valid.
use Rattle.std.specs.Prelude.{All}
use Rattle.graph_core_spec.specs.Graph.{IsValid}
use Rattle.c_types_spec.specs.Core.{Typed}
use Rattle.c_types_spec.specs.HasType.{IsTypedUnit}
use Rattle.c_graph_spec.specs.Guards.{Place}
use Rattle.c_graph_spec.specs.Sizes.{UnitSizes}
use Rattle.c_graph_spec.specs.SourceGraph.{graphs_of}
use Rattle.c_graph_laws.specs.Together.{IsPlace}

-- of a typed unit, where globals and fixed bytes have addresses of 32 bits
abbrev pub SourceGraphsAreValid : Type 0
SourceGraphsAreValid = (unit : Typed) (where_it_is : Place) → IsTypedUnit unit → UnitSizes unit → IsPlace where_it_is → All IsValid (graphs_of unit where_it_is)
