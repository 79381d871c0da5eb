-- States in which each variable has a value of its sort.
use Rattle.std.specs.Prelude.{List, [], ◌∷◌, ⊤, All}
use Rattle.term_core_spec.specs.Value.{IsAssignment}
use Rattle.graph_core_spec.specs.Graph.{AreBindings, Graphs, IsValid}
use Rattle.graph_core_spec.specs.Run.{Waiting, State, Running, Returned, Failed}

-- of the functions that wait too, whose outputs are bindings
abbrev pub AreWaiting : List Waiting → Type 0
AreWaiting [] = ⊤
AreWaiting (f ∷ below) = IsAssignment f.values × AreBindings f.outputs × AreWaiting below

abbrev pub IsState : State → Type 0
IsState (Running g n values below) = IsAssignment values × AreWaiting below
IsState (Returned values) = IsAssignment values
IsState Failed = ⊤

-- the graphs are valid, and each variable has a value of its sort: a property of states that steps keep
pub record IsSorted (graphs : Graphs) (state : State) : Type 0 where
  pub valid : All IsValid graphs
  pub sorted : IsState state
