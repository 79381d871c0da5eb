-- The graph of a C function, and its points: the empty nodes at the test and at the body of each loop, and the node of
-- each call.
use Rattle.std.specs.Prelude.{ℕ, ◌+◌, List, [], ◌∷◌, ◌++◌, length, map, None, slice_get, bytes_eq, if◌then◌else◌}
use Rattle.std.specs.Option.{option_map_or}
use Rattle.graph_core_spec.specs.declared.Next.TheVariants.{Ret}
use Rattle.graph_core_spec.specs.Graph.{Basic, Graph, Graphs}
use Rattle.proof_tree_spec.specs.declared.Place.{Place}
use Rattle.proof_tree_spec.specs.declared.Place.TheVariants as place
use Rattle.c_token_spec.specs.Words.{entry_of}
use Rattle.c_types_spec.specs.declared.TestPlace.TheVariants.{Before, After}
use Rattle.c_types_spec.specs.Types.{int}
use Rattle.c_types_spec.specs.Core.{FunctionType, Body, Typed, Action, Sequence, Call, If, Loop, Switch, Groups, no_groups, groups}
use Rattle.c_graph_spec.specs.Guards as guards
use Rattle.c_graph_spec.specs.Layout.{Setting, exits, count, size, case_count, argument_tests, entry, nodes}

-- the number of a function's graph is that of its body in the unit
unfoldable pub body_number : List ℕ → List Body → ℕ
body_number name [] = 0
body_number name (body ∷ rest) = if bytes_eq body.name name then 0 else body_number name rest + 1

abbrev pub void_function : FunctionType
void_function = record { parameters = []; result = None }

abbrev pub type_named : Typed → List ℕ → FunctionType
type_named unit name = option_map_or (λ (type : FunctionType). type) (entry_of unit.functions name) void_function

abbrev pub setting_of : Typed → guards.Place → Body → Setting
setting_of unit where_it_is body = record {
  place = where_it_is;
  graph_number = λ name. body_number name unit.bodies;
  function_type = type_named unit;
  local_type = λ number. option_map_or (λ type. type) (slice_get body.locals number) int;
}

-- a body: the landing node at which a run begins, and then what the function does, which ends by a return or a guard
unfoldable pub graph_of : Typed → guards.Place → Body → Graph
graph_of unit where_it_is body = record {
  nodes = Basic [] (entry (setting_of unit where_it_is body) body.action 1 Ret (exits Ret Ret))
      ∷ nodes (setting_of unit where_it_is body) body.action 1 Ret (exits Ret Ret);
  entry = 0;
}

-- the graphs of all bodies of a unit, in order
abbrev pub graphs_of : Typed → guards.Place → Graphs
graphs_of unit where_it_is = map (graph_of unit where_it_is) unit.bodies

-- ---- points

-- the points of a statement whose nodes begin at a number, each with its node
unfoldable mutual
  pub points : Setting → Action → (at : ℕ) → List (Place × ℕ)
  points f (Sequence a b) at = points f a at ++ points f b (at + size f a)
  points f (Call number function arguments result) at = (place.Call number, at + length (argument_tests f arguments)) ∷ []
  points f (If test a b) at = points f a (at + count f test + 1) ++ points f b (at + count f test + 1 + size f a)
  points f (Loop number Before test step body) at =
      (place.Test number, at) ∷ (place.Body number, at + count f test + 2)
      ∷ (points f body (at + count f test + 3) ++ points f step (at + count f test + 3 + size f body))
  points f (Loop number After test step body) at =
      (place.Body number, at) ∷ (place.Test number, at + 1 + size f body)
      ∷ points f body (at + 1)
  points f (Switch test list) at = groups_points f list (at + count f test + case_count list)
  points f other at = []

  pub groups_points : Setting → Groups → (at : ℕ) → List (Place × ℕ)
  groups_points f no_groups at = []
  groups_points f (groups values body rest) at = points f body at ++ groups_points f rest (at + size f body)

abbrev pub points_of : Typed → guards.Place → Body → List (Place × ℕ)
points_of unit where_it_is body = points (setting_of unit where_it_is body) body.action 1
