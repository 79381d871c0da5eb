-- What is known of the visits so far, by their positions.
use Rattle.std.specs.Prelude.{◌≡◌, ℕ, ◌<◌, List, [], ◌∷◌, ◌++◌, length, slice_get, Some, All}
use Rattle.std.specs.Option.{option_map_or}
use Rattle.term_core_spec.specs.declared.Variable.{Variable}
use Rattle.term_core_spec.specs.Term.{Term}
use Rattle.term_core_spec.specs.Substitution.{State}
use Rattle.term_bank.specs.Nodes.{Holds}
use Rattle.graph_core_spec.specs.Graph.{Graph}
use Rattle.visit_walk_spec.specs.declared.Incoming.{Incoming}
use Rattle.path_cond_spec.specs.Junctions.{Junction}
use Rattle.path_cond_spec.specs.Conditions.{Conditional, node_of_junction}
use Rattle.path_cond_spec.specs.Passages.{IsInto}
use Rattle.path_cond.specs.declared.ids.Ids.{Ids}
use Rattle.path_cond.specs.declared.leave.Leaving.{Leaving}
use Rattle.path_cond.specs.declared.known.Known.{Known}
use Rattle.path_cond.specs.Ids.{id_at}
use Rattle.path_cond.specs.Branches.{IsLeft, id_by}
use Rattle.path_cond.specs.States.{HasState, IsFull}

-- the condition of an edge
abbrev pub edge_id : Known → Incoming → ℕ
edge_id known e = option_map_or (λ (l : Leaving). id_by l e.branch) (slice_get known.leaving.items e.source) 0

-- ---- edges

-- the source of an edge is known, with ids of a bank of so many terms
pub record IsArriving (terms count : ℕ) (known : Known) (e : Incoming) : Type 0 where
  pub within : e.source < length known.leaving.items
  pub condition : edge_id known e < terms
  pub after : Ids
  pub after_is : slice_get known.after.items e.source ≡ Some after
  pub full : IsFull terms count (id_at after)

abbrev pub AreArriving : (terms count : ℕ) → Known → List Incoming → Type 0
AreArriving terms count known edges = All (IsArriving terms count known) edges

-- an edge leads to this conditional
pub record IsEdge (trees : List Term) (variables : List Variable) (start : State) (known : Known) (e : Incoming) (c : Conditional) : Type 0 where
  pub condition : Holds trees (edge_id known e) c.condition
  pub after : Ids
  pub after_is : slice_get known.after.items e.source ≡ Some after
  pub state : HasState trees variables start (id_at after) c.state

abbrev pub AreEdges : List Term → List Variable → State → Known → (Incoming → Conditional) → List Incoming → Type 0
AreEdges trees variables start known f edges = All (λ (e : Incoming). IsEdge trees variables start known e (f e)) edges

-- ---- visits

-- the condition and the state of a visit, and what leaves it
pub record IsKnownAt (trees : List Term) (variables : List Variable) (start : State) (g : Graph) (js : List Junction) (known : Known) (i : ℕ) (c : Conditional) : Type 0 where
  pub condition : ℕ
  pub state : Ids
  pub leaving : Leaving
  pub after : Ids
  pub condition_is : slice_get known.conditions.items i ≡ Some condition
  pub state_is : slice_get known.states.items i ≡ Some state
  pub leaving_is : slice_get known.leaving.items i ≡ Some leaving
  pub after_is : slice_get known.after.items i ≡ Some after
  pub holds : Holds trees condition c.condition
  pub has : HasState trees variables start (id_at state) c.state
  pub left : IsLeft trees variables start (node_of_junction g js i) c (leaving, after)

-- the conditionals of the first visits are known
pub record AreKnown (trees : List Term) (variables : List Variable) (start : State) (g : Graph) (js : List Junction) (known : Known) (cs : List Conditional) : Type 0 where
  pub conditions : length known.conditions.items ≡ length cs
  pub states : length known.states.items ≡ length cs
  pub leaving : length known.leaving.items ≡ length cs
  pub after : length known.after.items ≡ length cs
  pub each : (i : ℕ) (c : Conditional) → slice_get cs i ≡ Some c → IsKnownAt trees variables start g js known i c

-- one visit more
pub record IsPushed (old new : Known) (condition : ℕ) (state : Ids) (l : Leaving) (after : Ids) : Type 0 where
  pub all_conditions : new.conditions.items ≡ old.conditions.items ++ condition ∷ []
  pub all_states : new.states.items ≡ old.states.items ++ state ∷ []
  pub all_leaving : new.leaving.items ≡ old.leaving.items ++ l ∷ []
  pub all_after : new.after.items ≡ old.after.items ++ after ∷ []

-- no visit is known
abbrev pub IsNothing : Known → Type 0
IsNothing known = (known.conditions.items ≡ []) × (known.states.items ≡ []) × (known.leaving.items ≡ []) × (known.after.items ≡ [])

-- the edges into each visit come from earlier ones
abbrev pub AreEarlier : List Junction → Type 0
AreEarlier js = (j : ℕ) (e : Incoming) → IsInto js j e → e.source < j
