-- What the nodes of a body are written in, as the definitions see it.
use Rattle.std.specs.Prelude.{ℕ, List, slice_get}
use Rattle.std.specs.Option.{option_map_or}
use Rattle.c_types_spec.specs.declared.Scalar.{Scalar}
use Rattle.c_types_spec.specs.Types.{int}
use Rattle.c_types.specs.Typed.{typed_of}
use Rattle.c_graph_spec.specs.Layout.{Setting}
use Rattle.c_graph_spec.specs.SourceGraph.{body_number, type_named}
use Rattle.c_graph_terms.specs.Scenes.{place_of}
use Rattle.c_graph.specs.declared.frame.Frame.{Frame}

-- the type of a local
abbrev pub local_in : List Scalar → ℕ → Scalar
local_in locals number = option_map_or (λ type. type) (slice_get locals number) int

abbrev pub setting_in : Frame → Setting
setting_in frame = record {
  place = place_of frame.place.now;
  graph_number = λ name. body_number name (typed_of frame.unit.now).bodies;
  function_type = type_named (typed_of frame.unit.now);
  local_type = local_in frame.locals.now;
}
