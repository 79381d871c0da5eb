-- What it means that inlining calls of a function keeps what its runs do.
use Rattle.std.specs.Prelude.{◌≡◌, ◌⊎◌, ℕ, suc, ◌<◌, true, [], length, Option, Some}
use Rattle.term_core_spec.specs.declared.Variable.{Variable}
use Rattle.term_core_spec.specs.Sort.{is_memory}
use Rattle.term_core_spec.specs.Value.{Assignment}
use Rattle.graph_core_spec.specs.TransitionSystem.{after}
use Rattle.graph_core_spec.specs.Graph.{Graph, Graphs}
use Rattle.graph_core_spec.specs.Run.{State, Running, Returned, Failed, is_shared}
use Rattle.graph_core_spec.specs.Fixed.{AlwaysHoldsFixed}
use Rattle.proof_tree_spec.specs.Frames.{Side}
use Rattle.sim_rules_spec.specs.Systems.{system_at}
use Rattle.graph_inline_spec.specs.Beside.{beside, own_number}
use Rattle.sim_inline_laws.specs.Unfolding.{Inlinable, Functions, AreInlinable, Unfolds}

-- a side with a further graph beside its set, which is outermost there
abbrev pub beside_side : Side → Graph → Side
beside_side side own = record { graphs = beside side.graphs own; outermost = own_number side.graphs }

-- shared, or of no inlined call
abbrev pub IsOfFunction : Variable → Type 0
IsOfFunction v = (is_shared v ≡ true) ⊎ (v.instance < 2)

abbrev pub SameOfFunction : (old new : Assignment) → Type 0
SameOfFunction old new = (v : Variable) → IsOfFunction v → new v ≡ old v

-- one run fails or returns exactly if the other does, with the same values of the function's variables
pub record EndAlike (old new : Side) (x y : State) : Type 0 where
  pub returns : (k : ℕ) (values : Assignment) → after (system_at old) k x ≡ Returned values
      → (j : ℕ) × (result : Assignment) × (after (system_at new) j y ≡ Returned result) × SameOfFunction values result
  pub returns_only : (j : ℕ) (result : Assignment) → after (system_at new) j y ≡ Returned result
      → (k : ℕ) × (values : Assignment) × (after (system_at old) k x ≡ Returned values) × SameOfFunction values result
  pub fails : (k : ℕ) → after (system_at old) k x ≡ Failed → (j : ℕ) × (after (system_at new) j y ≡ Failed)
  pub fails_only : (j : ℕ) → after (system_at new) j y ≡ Failed → (k : ℕ) × (after (system_at old) k x ≡ Failed)

-- at a node of the function, where none waits; and at the same node of its graph with inlined calls, beside the set
abbrev pub start_of : Side → (m : ℕ) → Assignment → State
start_of side m values = Running side.outermost m values []

abbrev pub RunsAreKept : Type 0
RunsAreKept = (side : Side) (functions : Functions) (function : Inlinable) (free : ℕ) (own : Graph) → AreInlinable side.graphs functions → functions side.outermost ≡ Some function
    → Unfolds functions function free own → (m : ℕ) → m < length function.graph.nodes → (values : Assignment)
    → EndAlike side (beside_side side own) (start_of side m values) (start_of (beside_side side own) m values)

abbrev pub FixedBytesAreKept : Type 0
FixedBytesAreKept = (side : Side) (functions : Functions) (function : Inlinable) (free : ℕ) (own : Graph) → AreInlinable side.graphs functions → functions side.outermost ≡ Some function
    → Unfolds functions function free own → (m : ℕ) → m < length function.graph.nodes → (values : Assignment)
    → (fixed : ℕ → Option ℕ) (memory : Variable) → is_memory memory.sort ≡ true → AlwaysHoldsFixed side.graphs side.outermost fixed memory (start_of side m values)
    → AlwaysHoldsFixed (beside side.graphs own) (own_number side.graphs) fixed memory (start_of (beside_side side own) m values)

-- at each moment both runs from a state are in one state; or the old one has failed, and the new one fails at its next step
abbrev pub RunsOn : (old new : Side) → State → Type 0
RunsOn old new s = (k : ℕ) → (after (system_at new) k s ≡ after (system_at old) k s) ⊎ ((after (system_at old) k s ≡ Failed) × (after (system_at new) (suc k) s ≡ Failed))

-- a function of the set runs beside a further graph as it did
abbrev pub CalleesRunOn : Type 0
CalleesRunOn = (graphs : Graphs) (own : Graph) (functions : Functions) → AreInlinable graphs functions → (h : ℕ) → h < length graphs → (m : ℕ) (values : Assignment)
    → RunsOn (record { graphs = graphs; outermost = h }) (record { graphs = beside graphs own; outermost = h }) (Running h m values [])
