-- When inlining keeps what a graph does.
use Rattle.std.specs.Prelude.{◌≡◌, ◌≢◌, ◌⊎◌, ℕ, true, false, List, All, Contains, Some, slice_get}
use Rattle.term_core_spec.specs.declared.Variable.{Variable}
use Rattle.term_core_spec.specs.Term.{Term, Occurs}
use Rattle.graph_core_spec.specs.Graph.{Binding, Node, Basic, Cond, Call, Graph, Graphs, IsValid, node_at}
use Rattle.graph_core_spec.specs.Run.{is_shared}
use Rattle.graph_inline_spec.specs.Inlined.{inlined}

-- ---- which variables a node speaks of

abbrev pub TermSpeaksOf : (Variable → Type 0) → Term → Type 0
TermSpeaksOf P t = (v : Variable) → Occurs v t → P v

-- all that it reads or binds in the frame of its own function: a call's inputs bind the callee's variables, and its
-- outputs read them
abbrev pub SpeaksOf : (Variable → Type 0) → Node → Type 0
SpeaksOf P (Basic bindings to) = All (λ b. P b.variable × TermSpeaksOf P b.term) bindings
SpeaksOf P (Cond test on_true on_false) = TermSpeaksOf P test
SpeaksOf P (Call callee inputs outputs landing) = All (λ b. TermSpeaksOf P b.term) inputs × All (λ b. P b.variable) outputs

-- shared, or one of the callee's own variables
abbrev pub IsOfCallee : List Variable → Variable → Type 0
IsOfCallee own v = (is_shared v ≡ true) ⊎ Contains own v

-- shared, or of another instance
abbrev pub IsElsewhere : ℕ → Variable → Type 0
IsElsewhere instance v = (is_shared v ≡ true) ⊎ (v.instance ≢ instance)

-- a function's own variables, none of them of an inlined call
abbrev pub IsOwn : Variable → Type 0
IsOwn v = (is_shared v ≡ false) × (v.instance ≡ 0)

-- ---- a call that can be inlined

-- The call at node n of the caller, what it passes and takes, and where it continues. The caller has no variable of the
-- instance; all variables of the callee are listed; both graphs are valid
pub record CanInline (caller : Graph) (n : ℕ) (callee : Graph) (own : List Variable) (instance : ℕ) : Type 0 where
  pub number : ℕ
  pub inputs : List Binding
  pub outputs : List Binding
  pub landing : ℕ
  pub call : slice_get caller.nodes n ≡ Some (Call number inputs outputs landing)
  pub own_variables : All IsOwn own
  pub fresh : All (SpeaksOf (IsElsewhere instance)) caller.nodes
  pub listed : All (SpeaksOf (IsOfCallee own)) callee.nodes
  pub takes : All (λ b. TermSpeaksOf (IsOfCallee own) b.term) outputs
  pub valid_caller : IsValid caller
  pub valid_callee : IsValid callee

-- no graph of the set calls the graph with this number
abbrev pub NeverCalls : Graphs → ℕ → Type 0
NeverCalls graphs g = (h m callee : ℕ) (inputs outputs : List Binding) (landing : ℕ) → node_at graphs h m ≡ Some (Call callee inputs outputs landing) → callee ≢ g

-- two sets of graphs that differ in graph g alone, which none of them calls: the new one has the call at node n inlined
pub record Inlines (graphs : Graphs) (g n : ℕ) (own : List Variable) (instance : ℕ) (new : Graphs) : Type 0 where
  pub caller : Graph
  pub callee : Graph
  pub can : CanInline caller n callee own instance
  pub here : slice_get graphs g ≡ Some caller
  pub there : slice_get graphs can.number ≡ Some callee
  pub changed : slice_get new g ≡ inlined caller n callee own instance
  pub others : (h : ℕ) → h ≢ g → slice_get new h ≡ slice_get graphs h
  pub never_called : NeverCalls graphs g
