-- What inlining a call answers.
use Rattle.std.specs.Prelude.{◌≡◌, ℕ, ◌<◌, ◌≤◌, List, Option, Some, None, IsSome, Result, Ok, Err}
use Rattle.term_core_spec.specs.declared.Variable.{Variable}
use Rattle.graph_core_spec.specs.Graph as spec
use Rattle.graph_core.specs.declared.graph.Graph.{Graph}
use Rattle.graph_core.specs.Graphs.{graph_of}
use Rattle.graph_inline_spec.specs.Inlined.{inlined, inlined_size}
use Rattle.graph_inline.specs.declared.inlining.InlineFault.{InlineFault}
use Rattle.graph_inline.specs.declared.inlining.InlineFault.TheVariants as fault
use Rattle.tv_limits.specs.declared.TheConstants.{MAX_NODES}

-- the graph, which has no more nodes than a graph may have; that the node is no call; or how many nodes there would be,
-- more than a graph may have. Out of memory at any time
abbrev pub IsOutcome : (result : Option spec.Graph) (size : ℕ) → Result Graph InlineFault → Type 0
IsOutcome result size (Ok g) = (result ≡ Some (graph_of g)) × (size ≤ MAX_NODES)
IsOutcome result size (Err fault.NotCall) = result ≡ None
IsOutcome result size (Err (fault.TooLarge count)) = (count ≡ size) × (MAX_NODES < size) × IsSome result
IsOutcome result size (Err fault.NoMemory) = Unit {0}

abbrev pub IsInlining : (caller : spec.Graph) (n : ℕ) (callee : spec.Graph) (own : List Variable) (instance : ℕ) → Result Graph InlineFault → Type 0
IsInlining caller n callee own instance result = IsOutcome (inlined caller n callee own instance) (inlined_size caller callee) result
