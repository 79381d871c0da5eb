-- Cases, points and graphs of the program, as the definitions see them.
use Rattle.std.specs.Prelude.{ℕ, ℤ, List, [], ◌∷◌, map}
use Rattle.term_core_spec.specs.Term.{Term, equal}
use Rattle.graph_core_spec.specs.declared.Next.{Next}
use Rattle.graph_core_spec.specs.declared.Next.TheVariants.{Ret}
use Rattle.graph_core_spec.specs.Graph as graph
use Rattle.graph_core.specs.Graphs.{graph_of}
use Rattle.proof_tree_spec.specs.declared.Place.{Place}
use Rattle.proof_tree_spec.specs.declared.Place.TheVariants as place
use Rattle.c_types_spec.specs.declared.Scalar.{Scalar}
use Rattle.c_types_spec.specs.declared.TestPlace.{TestPlace}
use Rattle.c_types_spec.specs.declared.TestPlace.TheVariants.{Before, After}
use Rattle.c_types_spec.specs.Core.{Action, Body, Typed}
use Rattle.c_graph_spec.specs.State.{value_constant}
use Rattle.c_graph_spec.specs.Guards as guards
use Rattle.c_graph_spec.specs.Layout.{Setting, exits, entry, nodes}
use Rattle.c_graph_spec.specs.SourceGraph as spec
use Rattle.c_graph.specs.declared.cases.Case.{Case}
use Rattle.c_graph.specs.declared.points.Point.{Point}
use Rattle.c_graph.specs.declared.source_graph.SourceGraph.{SourceGraph}

-- ---- cases

abbrev pub case_of : Case → ℤ × Next
case_of c = (c.value, c.next)

abbrev pub cases_in : List Case → List (ℤ × Next)
cases_in cases = map case_of cases

-- whether a word is that of each value
abbrev pub case_tests : Scalar → Term → List (ℤ × Next) → List Term
case_tests type x cases = map (λ c. equal x (value_constant type c.0)) cases

-- ---- points

abbrev pub point_of : Point → Place × ℕ
point_of p = (p.place, p.node)

abbrev pub points_in : List Point → List (Place × ℕ)
points_in points = map point_of points

-- those of a loop itself, in their order
abbrev pub loop_points : TestPlace → (number first second : ℕ) → List (Place × ℕ)
loop_points Before number first second = (place.Test number, first) ∷ (place.Body number, second) ∷ []
loop_points After number first second = (place.Body number, first) ∷ (place.Test number, second) ∷ []

-- ---- graphs

-- the landing node at which a run begins, and then what the body does
abbrev pub body_nodes : Setting → Action → List graph.Node
body_nodes f a = graph.Basic [] (entry f a 1 Ret (exits Ret Ret)) ∷ nodes f a 1 Ret (exits Ret Ret)

-- a graph that begins with its first node
abbrev pub graph_with : List graph.Node → graph.Graph
graph_with list = record { nodes = list; entry = 0 }

-- the graph of a function, and its points
abbrev pub Made : Type 0
Made = graph.Graph × List (Place × ℕ)

abbrev pub made_of : SourceGraph → Made
made_of made = (graph_of made.graph, points_in made.points.items)

abbrev pub made_for : Typed → guards.Place → Body → Made
made_for unit where_it_is body = (spec.graph_of unit where_it_is body, spec.points_of unit where_it_is body)
