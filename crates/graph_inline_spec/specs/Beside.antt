-- A set of graphs with a further graph beside it: the graphs of the set go on to call each other, and none of them calls it.
use Rattle.std.specs.Prelude.{ℕ, suc, [], ◌∷◌, ◌++◌, length}
use Rattle.graph_core_spec.specs.declared.Next.TheVariants as next
use Rattle.graph_core_spec.specs.Graph.{Basic, Graph, Graphs}

-- fails at once
abbrev pub failing : Graph
failing = record { nodes = Basic [] next.Err ∷ []; entry = 0 }

-- Functions that have no graph in a set are numbered by how many it has. Under that number is a graph that fails, as their
-- calls do, and under the next one the further graph.
abbrev pub beside : Graphs → Graph → Graphs
beside graphs own = graphs ++ failing ∷ own ∷ []

abbrev pub own_number : Graphs → ℕ
own_number graphs = suc (length graphs)
