-- The shape of a graph: where a run continues after each node. Terms and bindings are left out.
use Rattle.std.specs.Prelude.{ℕ, List, map, slice_get, unwrap_or}
use Rattle.graph_core_spec.specs.declared.Next.TheVariants as next
use Rattle.graph_core_spec.specs.Graph.{Node, Basic, Cond, Call, Graph}
use Rattle.visit_walk_spec.specs.declared.Successors.{Successors}
use Rattle.visit_walk_spec.specs.declared.Successors.TheVariants.{One, Two, Callee}

-- by node
abbrev pub Shape : Type 0
Shape = List Successors

abbrev pub successors_of : Node → Successors
successors_of (Basic bindings after) = One after
successors_of (Cond test on_true on_false) = Two on_true on_false
successors_of (Call callee inputs outputs landing) = Callee

abbrev pub shape_of : Graph → Shape
shape_of graph = map successors_of graph.nodes

-- a node that is missing fails
abbrev pub successors_at : Shape → ℕ → Successors
successors_at shape n = unwrap_or (slice_get shape n) (One next.Err)
