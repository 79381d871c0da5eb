-- What a certificate whose lines are accepted one at a time shows of the functions of an executable and a unit.
use Rattle.std.specs.Prelude.{◌≡◌, ◌≤◌, ℕ, Bool, true, false, List, [], ◌∷◌, ◌++◌, length, map, All, Contains, Some, IsSome, option_map, slice_get}
use Rattle.code_reach_spec.specs.Code.{IsStack}
use Rattle.term_core_spec.specs.declared.Family.{Family}
use Rattle.term_core_spec.specs.declared.Sort.{Sort}
use Rattle.term_core_spec.specs.declared.Variable.{Variable}
use Rattle.term_core_spec.specs.Sort.{is_memory}
use Rattle.graph_core_spec.specs.Graph.{Graph, Graphs}
use Rattle.graph_inline_spec.specs.Inlining.{SpeaksOf, IsOfCallee, IsOwn}
use Rattle.c_types_spec.specs.declared.Scalar.{Scalar}
use Rattle.c_types_spec.specs.Core.{Body}
use Rattle.c_graph_spec.specs.State.{result}
use Rattle.c_graph_spec.specs.SourceGraph.{body_number, graphs_of}
use Rattle.cert_text_spec.specs.Lines as line
use Rattle.cert_text_spec.specs.Lines.{Line}
use Rattle.validity_spec.specs.Claim.{IsValid}
use Rattle.sim_rules_spec.specs.Points.{is_binary}
use Rattle.sim_inline_laws.specs.Unfolding as inlining
use Rattle.agreement_laws.specs.EntryFrame.{Pair, place_of}
use Rattle.cert_check_lines_spec.specs.Parts.{CodeFunction, SourceFunction, Functions, Member, State, Between, AreAccepted, IsPlainLine}
use Rattle.cert_check_lines_spec.specs.Members.{member_of}
use Rattle.validity_laws.specs.Inlined.{is_own_of_source}
use Rattle.validity_laws.specs.OwnVariables.{functions_of, IsNumbered}
use Rattle.validity_laws.specs.Derivation.{Function, AreSides}
use Rattle.validity_laws.specs.CheckStatements.{listed_of, IsFile, AreFunctions, AreAtNames}

abbrev pub member_for : Pair → (firsts : List (List (ℕ × ℕ))) → Function → Member
member_for q firsts g = member_of (listed_of q firsts g)

-- of a certificate whose lines, the last of which is the end, are accepted, and none of which inlines a call, each function
-- that takes this much stack is valid, wherever the code's points are
abbrev pub AcceptedIsValid : Type 0
AcceptedIsValid = (q : Pair) (firsts : List (List (ℕ × ℕ))) (functions : List Function) (fs : Functions) (lines : List Line) (final : State) → AreSides q → IsFile q
    → AreFunctions q functions → AreAtNames q functions → All IsPlainLine lines
    → AreAccepted fs (map (member_for q firsts) functions) 0 (Between []) (lines ++ line.End ∷ []) final → (g : Function) → Contains functions g
    → IsStack q.image g.entry g.stack → IsValid q.image q.unit g.body.name g.stack

-- ---- with calls inlined

-- the functions of code and of the source whose calls may be inlined, by the numbers of their graphs
abbrev pub code_functions : Functions → inlining.Functions
code_functions fs number = option_map (λ (f : CodeFunction). record { graph = f.graph; own = f.own }) (fs.code number)

abbrev pub source_functions : Functions → inlining.Functions
source_functions fs number = option_map (λ (f : SourceFunction). record { graph = f.graph; own = f.own }) (fs.source number)

-- what `inline` lines read of a function is right: the graph is the set's, and these are all of its own variables, which are
-- of the side
pub record IsKnown (own_family : Family → Bool) (graphs : Graphs) (number : ℕ) (graph : Graph) (own : List Variable) : Type 0 where
  pub there : slice_get graphs number ≡ Some graph
  pub all_own : All IsOwn own
  pub kinds : All (λ (v : Variable). own_family v.family ≡ true) own
  pub listed : All (SpeaksOf (IsOfCallee own)) graph.nodes

-- the functions of both sides by the numbers of their graphs; numbers of code that has no graph are as many as there are; own
-- variables have the result, if there is one, and locals are no memories
pub record AreKnown (q : Pair) (functions : List Function) (fs : Functions) : Type 0 where
  pub code : (number : ℕ) (f : CodeFunction) → fs.code number ≡ Some f → IsKnown is_binary q.graphs number f.graph f.own
  pub source : (number : ℕ) (f : SourceFunction) → fs.source number ≡ Some f → IsKnown is_own_of_source (graphs_of q.unit (place_of q)) number f.graph f.own
  pub numbered : (entry : ℕ) → q.numbering.graph_number entry ≤ length q.graphs
  pub results : (number : ℕ) (f : SourceFunction) (body : Body) (type : Scalar) → fs.source number ≡ Some f → slice_get q.unit.bodies number ≡ Some body
      → body.signature.result ≡ Some type → Contains f.own (result type)
  pub words : (number : ℕ) (f : SourceFunction) → fs.source number ≡ Some f → All (λ (t : Sort). is_memory t ≡ false) f.locals
  pub code_there : (g : Function) → Contains functions g → IsSome (fs.code (q.numbering.graph_number g.entry))
  pub source_there : (g : Function) → Contains functions g → IsSome (fs.source (body_number g.body.name q.unit.bodies))

-- of a certificate whose lines are accepted, the last of which is the end, each function that takes this much stack is
-- valid, wherever the code's points are: its lines may inline calls
abbrev pub WholeIsValid : Type 0
WholeIsValid = (q : Pair) (firsts : List (List (ℕ × ℕ))) (functions : List Function) (fs : Functions) (lines : List Line) (final : State) → AreSides q → IsFile q
    → AreFunctions q functions → AreAtNames q functions → AreKnown q functions fs
    → AreAccepted fs (map (member_for q firsts) functions) 0 (Between []) (lines ++ line.End ∷ []) final → (g : Function) → Contains functions g
    → IsStack q.image g.entry g.stack → IsValid q.image q.unit g.body.name g.stack

-- what such lines read of the functions of an executable and a unit is right, where it is what their graphs have
abbrev pub FunctionsAreKnown : Type 0
FunctionsAreKnown = (q : Pair) (firsts : List (List (ℕ × ℕ))) (functions : List Function) → AreSides q → IsNumbered q → AreFunctions q functions
    → AreKnown q functions (functions_of q firsts)
