-- The conditions of a walk's visits, in a bank.
use Rattle.std.specs.Prelude.{ℕ, ◌<◌, List, length, map, get_or, All}
use Rattle.term_core_spec.specs.Term.{Term}
use Rattle.term_core_spec.specs.Substitution.{State}
use Rattle.graph_core_spec.specs.Graph.{Graph}
use Rattle.path_cond_spec.specs.Junctions.{Junction}
use Rattle.path_cond_spec.specs.Conditions.{conditionals}
use Rattle.path_cond.specs.declared.found.Conditions.{Conditions}
use Rattle.path_cond.specs.Ids.{id_at}
use Rattle.path_cond.specs.States.{HasState}
use Rattle.path_cond.specs.Table.{AreKnown}

-- these are the conditions and the states of all visits, from this state at the start
pub record AreConditions (trees : List Term) (start : State) (g : Graph) (js : List Junction) (c : Conditions) : Type 0 where
  pub first : HasState trees c.variables.keys start (id_at c.start) start
  pub visits : AreKnown trees c.variables.keys start g js c.known (conditionals g js start)

-- positions of visits, where these are the conditions of some visits
pub record AreMembers (trees : List Term) (c : Conditions) (members : List ℕ) : Type 0 where
  pub start : State
  pub graph : Graph
  pub junctions : List Junction
  pub are : AreConditions trees start graph junctions c
  pub within : All (λ (m : ℕ). m < length junctions) members

-- the conditions of some visits
abbrev pub conditions_at : List ℕ → List ℕ → List ℕ
conditions_at conditions members = map (λ (m : ℕ). get_or conditions m 0) members
