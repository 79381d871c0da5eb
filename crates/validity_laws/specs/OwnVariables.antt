-- The functions of both sides as lines that inline calls read them: their graphs, all own variables that these speak of, where
-- their points are, and the sorts of their locals.
use Rattle.std.specs.Prelude.{◌≤◌, ℕ, not, List, [], ◌∷◌, length, map, filter, get_or, Option, Some, None, option_map, slice_get}
use Rattle.term_core_spec.specs.declared.Variable.{Variable}
use Rattle.graph_core_spec.specs.Graph.{Graph}
use Rattle.graph_core_spec.specs.Run.{is_shared}
use Rattle.graph_core_spec.specs.Variables.{variables, with_variables}
use Rattle.c_types_spec.specs.declared.Scalar.{Scalar}
use Rattle.c_types_spec.specs.Core.{Body}
use Rattle.c_graph_spec.specs.State.{sort_of_scalar, result}
use Rattle.c_graph_spec.specs.SourceGraph.{graph_of, points_of}
use Rattle.agreement_laws.specs.EntryFrame.{Pair, place_of}
use Rattle.cert_check_lines_spec.specs.Parts.{CodeFunction, SourceFunction, Functions}
use Rattle.cert_check_lines_spec.specs.Members.{code_points, source_points}

-- what a function's graph speaks of and callers and callees don't share
abbrev pub own_variables : Graph → List Variable
own_variables g = filter (λ v. not (is_shared v)) (variables g)

-- the word of a result, which no node binds where a function never returns
abbrev pub result_words : Option Scalar → List Variable
result_words None = []
result_words (Some type) = result type ∷ []

abbrev pub code_function : (firsts : List (List (ℕ × ℕ))) → (number : ℕ) → Graph → CodeFunction
code_function firsts number g = record {
  graph = g;
  own = own_variables g;
  first = (code_points g.nodes (get_or firsts number [])).first;
  call = (code_points g.nodes (get_or firsts number [])).call;
}

abbrev pub source_function : Pair → Body → SourceFunction
source_function q b = record {
  graph = graph_of q.unit (place_of q) b;
  own = with_variables (own_variables (graph_of q.unit (place_of q) b)) (result_words b.signature.result);
  node = (source_points (points_of q.unit (place_of q) b)).node;
  locals = map sort_of_scalar b.locals;
}

-- by the numbers of graphs of code, and of bodies
abbrev pub functions_of : Pair → (firsts : List (List (ℕ × ℕ))) → Functions
functions_of q firsts = record {
  code = λ number. option_map (code_function firsts number) (slice_get q.graphs number);
  source = λ number. option_map (source_function q) (slice_get q.unit.bodies number);
}

-- code that has no graph has the number of the first that is not there, or less
abbrev pub IsNumbered : Pair → Type 0
IsNumbered q = (entry : ℕ) → q.numbering.graph_number entry ≤ length q.graphs
