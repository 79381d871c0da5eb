-- What it means that inlining keeps what a graph does.
use Rattle.std.specs.Prelude.{◌≡◌, ◌≢◌, ◌↔◌, ◌<◌, ℕ, true, false, List, [], length, All, Option, Some, None, slice_get}
use Rattle.term_core_spec.specs.declared.Variable.{Variable}
use Rattle.term_core_spec.specs.Value.{Assignment}
use Rattle.graph_core_spec.specs.TransitionSystem.{after}
use Rattle.graph_core_spec.specs.Graph.{Binding, Call, Graph, Graphs, IsValid}
use Rattle.graph_core_spec.specs.Run.{State, Running, Returned, Failed, is_shared, system_of}
use Rattle.graph_core_spec.specs.Fixed.{AlwaysHoldsFixed}
use Rattle.graph_core_spec.specs.Variables.{own_bindings}
use Rattle.graph_inline_spec.specs.Inlined.{inlined, inlined_size}
use Rattle.graph_inline_spec.specs.Inlining.{SpeaksOf, IsElsewhere, CanInline, NeverCalls, Inlines}

-- ---- the graph

abbrev pub CallsAloneAreInlined : Type 0
CallsAloneAreInlined = (caller : Graph) (n : ℕ) (callee : Graph) (own : List Variable) (instance : ℕ)
    → (inlined caller n callee own instance ≡ None)
    ↔ ((number : ℕ) (inputs outputs : List Binding) (landing : ℕ) → slice_get caller.nodes n ≢ Some (Call number inputs outputs landing))

abbrev pub SizesAreSums : Type 0
SizesAreSums = (caller : Graph) (n : ℕ) (callee : Graph) (own : List Variable) (instance : ℕ) (result : Graph)
    → inlined caller n callee own instance ≡ Some result → length result.nodes ≡ inlined_size caller callee

abbrev pub StayValid : Type 0
StayValid = (caller : Graph) (n : ℕ) (callee : Graph) (own : List Variable) (instance : ℕ) → CanInline caller n callee own instance
    → (result : Graph) × (inlined caller n callee own instance ≡ Some result) × IsValid result

-- ---- its runs

-- the same values of all variables but the own ones of the inlined call
abbrev pub SameElsewhere : ℕ → Assignment → Assignment → Type 0
SameElsewhere instance old new = (v : Variable) → IsElsewhere instance v → new v ≡ old v

-- one run fails or returns exactly if the other does, and the results are the same
pub record EndsAlike (instance : ℕ) (graphs new : Graphs) (g : ℕ) (old_start new_start : State) : Type 0 where
  pub returns : (k : ℕ) (old : Assignment) → after (system_of graphs g) k old_start ≡ Returned old
      → (j : ℕ) × (result : Assignment) × (after (system_of new g) j new_start ≡ Returned result) × SameElsewhere instance old result
  pub returns_only : (j : ℕ) (result : Assignment) → after (system_of new g) j new_start ≡ Returned result
      → (k : ℕ) × (old : Assignment) × (after (system_of graphs g) k old_start ≡ Returned old) × SameElsewhere instance old result
  pub fails : (k : ℕ) → after (system_of graphs g) k old_start ≡ Failed → (j : ℕ) × (after (system_of new g) j new_start ≡ Failed)
  pub fails_only : (j : ℕ) → after (system_of new g) j new_start ≡ Failed → (k : ℕ) × (after (system_of graphs g) k old_start ≡ Failed)

-- from each node of the caller, where no function waits
abbrev pub RunsAreKept : Type 0
RunsAreKept = (graphs : Graphs) (g n : ℕ) (own : List Variable) (instance : ℕ) (new : Graphs) (is : Inlines graphs g n own instance new) (m : ℕ)
    → m < length is.caller.nodes → (old_values new_values : Assignment) → SameElsewhere instance old_values new_values
    → EndsAlike instance graphs new g (Running g m old_values []) (Running g m new_values [])

-- for a memory that the call doesn't bind where the callee returns
abbrev pub FixedBytesAreKept : Type 0
FixedBytesAreKept = (graphs : Graphs) (g n : ℕ) (own : List Variable) (instance : ℕ) (new : Graphs) (is : Inlines graphs g n own instance new) (m : ℕ)
    → m < length is.caller.nodes → (old_values new_values : Assignment) → SameElsewhere instance old_values new_values
    → (fixed : ℕ → Option ℕ) (memory : Variable) → is_shared memory ≡ true → All (λ b. b.variable ≢ memory) is.can.outputs
    → AlwaysHoldsFixed graphs g fixed memory (Running g m old_values []) → AlwaysHoldsFixed new g fixed memory (Running g m new_values [])

-- ---- further calls

-- a graph that has no variable of another instance still has none
abbrev pub OthersStayFresh : Type 0
OthersStayFresh = (caller : Graph) (n : ℕ) (callee : Graph) (own : List Variable) (instance : ℕ) → CanInline caller n callee own instance
    → (result : Graph) → inlined caller n callee own instance ≡ Some result → (other : ℕ) → other ≢ instance
    → All (SpeaksOf (IsElsewhere other)) caller.nodes → All (SpeaksOf (IsElsewhere other)) result.nodes

-- no node binds the variable in the frame of its own function
abbrev pub NeverBindsIt : Graph → Variable → Type 0
NeverBindsIt g v = All (λ node. All (λ b. b.variable ≢ v) (own_bindings node)) g.nodes

-- a function's own variable of another instance, such as a register at its entry, stays unbound where no node bound it
abbrev pub OthersStayUnbound : Type 0
OthersStayUnbound = (caller : Graph) (n : ℕ) (callee : Graph) (own : List Variable) (instance : ℕ) → CanInline caller n callee own instance
    → (result : Graph) → inlined caller n callee own instance ≡ Some result → (v : Variable) → is_shared v ≡ false → v.instance ≢ instance
    → NeverBindsIt caller v → NeverBindsIt result v

abbrev pub StaysUncalled : Type 0
StaysUncalled = (graphs : Graphs) (g n : ℕ) (own : List Variable) (instance : ℕ) (new : Graphs) → Inlines graphs g n own instance new → NeverCalls new g
