-- What the variables of a function are, whose parameters and locals have these types: nothing is inlined in it.
use Rattle.std.specs.Prelude.{List, [], ◌∷◌, length, map}
use Rattle.c_types_spec.specs.declared.Scalar.{Scalar}
use Rattle.c_graph_spec.specs.State.{sort_of_scalar}
use Rattle.proof_tree_spec.specs.Scope.{Body, Setting}

abbrev pub bodies_with : (locals : List Scalar) → List Body
bodies_with locals = record { path = []; instance = 0; locals = map sort_of_scalar locals } ∷ []

abbrev pub scope_with : (parameters locals : List Scalar) → Setting
scope_with parameters locals = record {
  argument_words = length parameters;
  parameters = map sort_of_scalar parameters;
  bodies = bodies_with locals;
}
