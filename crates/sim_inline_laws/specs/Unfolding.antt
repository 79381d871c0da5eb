-- Sets of graphs whose calls can be inlined, and graphs with calls inlined one after the other.
use Rattle.std.specs.Prelude.{◌≡◌, ℕ, suc, ◌≤◌, false, List, length, All, Option, Some, slice_get}
use Rattle.term_core_spec.specs.declared.Variable.{Variable}
use Rattle.term_core_spec.specs.Sort.{is_memory}
use Rattle.graph_core_spec.specs.Graph.{Binding, Node, Basic, Cond, Call, Graph, Graphs, IsValid}
use Rattle.graph_inline_spec.specs.Inlined.{inlined}
use Rattle.graph_inline_spec.specs.Inlining.{TermSpeaksOf, SpeaksOf, IsOfCallee, IsOwn}

-- a function that can be inlined: its graph, and its own variables
pub record Inlinable : Type 0 where
  pub graph : Graph
  pub own : List Variable

-- the functions of a set that can be, by the numbers of their graphs
abbrev pub Functions : Type 0
Functions = ℕ → Option Inlinable

-- ---- calls

abbrev pub BindsNoMemory : List Binding → Type 0
BindsNoMemory bindings = All (λ b. is_memory b.variable.sort ≡ false) bindings

-- a call in a set of so many graphs: of one of them, or of the number of the functions that have none. It passes and takes
-- no memory as a binding, since there is one for both; and of a function that can be inlined it takes what is the function's
pub record IsPlainCall (count : ℕ) (functions : Functions) (callee : ℕ) (inputs outputs : List Binding) : Type 0 where
  pub within : callee ≤ count
  pub passes : BindsNoMemory inputs
  pub takes : BindsNoMemory outputs
  pub taken : (f : Inlinable) → functions callee ≡ Some f → All (λ b. TermSpeaksOf (IsOfCallee f.own) b.term) outputs

abbrev pub CallsPlainly : (count : ℕ) → Functions → Node → Type 0
CallsPlainly count functions (Basic bindings to) = Unit {0}
CallsPlainly count functions (Cond test on_true on_false) = Unit {0}
CallsPlainly count functions (Call callee inputs outputs landing) = IsPlainCall count functions callee inputs outputs

-- ---- sets of graphs

abbrev pub IsPlainGraph : (count : ℕ) → Functions → Graph → Type 0
IsPlainGraph count functions g = All (CallsPlainly count functions) g.nodes

-- the graphs are valid, their calls plain; the functions have graphs of the set, and speak of variables of their own alone
pub record AreInlinable (graphs : Graphs) (functions : Functions) : Type 0 where
  pub valid : All IsValid graphs
  pub calls : All (IsPlainGraph (length graphs) functions) graphs
  pub there : (number : ℕ) (f : Inlinable) → functions number ≡ Some f → slice_get graphs number ≡ Some f.graph
  pub own : (number : ℕ) (f : Inlinable) → functions number ≡ Some f → All IsOwn f.own
  pub listed : (number : ℕ) (f : Inlinable) → functions number ≡ Some f → All (SpeaksOf (IsOfCallee f.own)) f.graph.nodes

-- ---- inlining

-- calls are inlined one after the other into the graph of a function, each at an instance of its own. From the first free
-- one on no instance is used; 0 is the function's own, and 1 what a call leaves
pub data Unfolds (functions : Functions) (function : Inlinable) : (free : ℕ) → Graph → Type 0 where
  as_it_is : Unfolds functions function 2 function.graph
  one_more : (free instance : ℕ) (g new : Graph) (n callee : ℕ) (inputs outputs : List Binding) (landing : ℕ) (f : Inlinable) → Unfolds functions function free g → free ≤ instance
      → slice_get g.nodes n ≡ Some (Call callee inputs outputs landing) → functions callee ≡ Some f → inlined g n f.graph f.own instance ≡ Some new
      → Unfolds functions function (suc instance) new
