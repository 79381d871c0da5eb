-- What it means that a frame may be simulated with calls inlined.
use Rattle.std.specs.Prelude.{◌≡◌, ◌≢◌, ℕ, ◌<◌, true, false, List, [], ◌++◌, length, All, Some}
use Rattle.term_core_spec.specs.declared.Variable.{Variable}
use Rattle.term_core_spec.specs.Term.{Term}
use Rattle.graph_core_spec.specs.Graph.{Node, Graph, Graphs}
use Rattle.graph_core_spec.specs.Variables.{all_bindings}
use Rattle.graph_core_spec.specs.Run.{is_shared}
use Rattle.graph_inline_spec.specs.Inlining.{TermSpeaksOf}
use Rattle.graph_inline_spec.specs.Kept.{NeverBindsIt}
use Rattle.proof_tree_spec.specs.Frames.{Side, Frame}
use Rattle.sim_rules_spec.specs.Points.{Convention, all_hold, with_memory, entry_zone, source_zone}
use Rattle.sim_rules_spec.specs.Systems.{IsSimulated}
use Rattle.sim_inline_laws.specs.Unfolding.{Inlinable, Functions, AreInlinable, Unfolds}
use Rattle.sim_inline_laws.specs.Runs.{IsOfFunction, beside_side}

-- a variable of the function that keeps its value while the function runs: no node of its graph binds it
pub record Stays (g : Graph) (v : Variable) : Type 0 where
  pub own : is_shared v ≡ false
  pub of_function : v.instance < 2
  pub unbound : NeverBindsIt g v

-- no node binds it, in its own function's frame or a callee's
abbrev pub SparesIt : Variable → Node → Type 0
SparesIt v node = All (λ b. b.variable ≢ v) (all_bindings node)

-- a variable of callers and callees alike that keeps its value: no node of any graph of the set binds it
pub record IsNeverBound (graphs : Graphs) (v : Variable) : Type 0 where
  pub shared : is_shared v ≡ true
  pub unbound : All (λ g. All (SparesIt v) g.nodes) graphs

-- a frame from the entry of a function to its returns, of which nothing is said yet. What holds where both have returned
-- speaks of no inlined call
pub record IsWhole (c : Convention) (f : Frame) : Type 0 where
  pub no_goals : f.goals ≡ []
  pub no_binary_bounds : f.start.binary_bounds ≡ []
  pub no_source_bounds : f.start.source_bounds ≡ []
  pub no_holds : f.holds ≡ []
  pub returns : All (TermSpeaksOf IsOfFunction) (with_memory c c.returns)

-- a side's outermost function, whose calls can be inlined; the frame starts at one of its nodes
pub record IsInlinableSide (side : Side) (start : ℕ) (functions : Functions) (function : Inlinable) : Type 0 where
  pub set : AreInlinable side.graphs functions
  pub outermost : functions side.outermost ≡ Some function
  pub start_there : start < length function.graph.nodes

-- `lines` are what is known of the states where the frame starts
abbrev pub BinaryIsSound : Type 0
BinaryIsSound = (c : Convention) (lines : List Term) (f : Frame) (functions : Functions) (function : Inlinable) (free : ℕ) (own : Graph) → IsWhole c f
    → IsInlinableSide f.binary f.start.nodes.binary functions function → Unfolds functions function free own
    → All (TermSpeaksOf (Stays function.graph)) (f.entry ++ entry_zone c)
    → IsSimulated c (all_hold lines) (record f { binary = beside_side f.binary own }) → IsSimulated c (all_hold lines) f

abbrev pub SourceIsSound : Type 0
SourceIsSound = (c : Convention) (lines : List Term) (f : Frame) (functions : Functions) (function : Inlinable) (free : ℕ) (own : Graph) → IsWhole c f
    → IsInlinableSide f.source f.start.nodes.source functions function → Unfolds functions function free own
    → All (TermSpeaksOf (IsNeverBound f.source.graphs)) (source_zone c)
    → IsSimulated c (all_hold lines) (record f { source = beside_side f.source own }) → IsSimulated c (all_hold lines) f
