-- The graph that inlining a call gives. The caller's nodes keep their numbers, and the call becomes a basic node, which
-- sets all of the callee's own variables. The callee's nodes follow the caller's, in their order. One more node, the
-- last, sets what the caller takes from the callee, and continues at the landing node.
use Rattle.std.specs.Prelude.{ℕ, ◌+◌, false, if◌then◌else◌, List, [], ◌∷◌, ◌++◌, length, map, filter, slice_get, slice_set, Option, Some, None}
use Rattle.term_core_spec.specs.declared.Variable.{Variable}
use Rattle.term_core_spec.specs.declared.Sort.{Sort}
use Rattle.term_core_spec.specs.declared.Sort.TheVariants as sort
use Rattle.term_core_spec.specs.Term.{Term, truth, constant, open_term}
use Rattle.term_core_spec.specs.Same.{same_variable}
use Rattle.graph_core_spec.specs.declared.Next.{Next}
use Rattle.graph_core_spec.specs.declared.Next.TheVariants as next
use Rattle.graph_core_spec.specs.Graph.{Binding, Node, Basic, Cond, Call, Graph}
use Rattle.graph_core_spec.specs.Run.{is_shared}
use Rattle.graph_inline_spec.specs.Naming.{inlined_variable, inlined_term, inlined_binding, with_inlined_term, with_inlined_variable}

-- ---- the call

-- what a function's own variable holds before it is bound: false, or 0. A memory is no function's own
abbrev pub unset_term : Variable → Sort → Term
unset_term v sort.Truth = truth false
unset_term v (sort.Word width) = constant width 0
unset_term v sort.Memory = open_term v

-- what the callee's variable starts with: the input that binds it, or unset
unfoldable pub start_term : (inputs : List Binding) → Variable → Term
start_term [] v = unset_term v v.sort
start_term (b ∷ inputs) v = if same_variable v b.variable then b.term else start_term inputs v

abbrev pub start_binding : (instance : ℕ) (inputs : List Binding) → Variable → Binding
start_binding instance inputs v = record { variable = inlined_variable instance v; term = start_term inputs v }

-- the inputs that bind what is shared, then all of the callee's own variables. The terms are the caller's
abbrev pub start_bindings : (own : List Variable) (instance : ℕ) (inputs : List Binding) → List Binding
start_bindings own instance inputs = filter (λ b. is_shared b.variable) inputs ++ map (start_binding instance inputs) own

-- ---- the body

-- the callee's node k becomes node `first + k`, and its return the node `last`
abbrev pub inlined_next : (first last : ℕ) → Next → Next
inlined_next first last (next.At k) = next.At (first + k)
inlined_next first last next.Ret = next.At last
inlined_next first last next.Err = next.Err

-- of a further call the inputs' terms and the outputs' variables are the inlined function's
abbrev pub inlined_node : (instance first last : ℕ) → Node → Node
inlined_node instance first last (Basic bindings to) = Basic (map (inlined_binding instance) bindings) (inlined_next first last to)
inlined_node instance first last (Cond test on_true on_false) = Cond (inlined_term instance test) (inlined_next first last on_true) (inlined_next first last on_false)
inlined_node instance first last (Call callee inputs outputs landing) =
    Call callee (map (with_inlined_term instance) inputs) (map (with_inlined_variable instance) outputs) (first + landing)

-- ---- the graph

-- the first node of the inlined body, and the node where it returns
abbrev pub body_start : (caller : Graph) → ℕ
body_start caller = length caller.nodes

abbrev pub body_end : (caller callee : Graph) → ℕ
body_end caller callee = length caller.nodes + length callee.nodes

abbrev pub inlined_nodes : (caller : Graph) (n : ℕ) (callee : Graph) (own : List Variable) (instance : ℕ) (inputs outputs : List Binding) (landing : ℕ) → List Node
inlined_nodes caller n callee own instance inputs outputs landing =
    slice_set caller.nodes n (Basic (start_bindings own instance inputs) (next.At (body_start caller + callee.entry)))
    ++ (map (inlined_node instance (body_start caller) (body_end caller callee)) callee.nodes
    ++ Basic (map (with_inlined_term instance) outputs) (next.At landing) ∷ [])

abbrev pub inlined_at : (caller : Graph) (n : ℕ) (callee : Graph) (own : List Variable) (instance : ℕ) → Option Node → Option Graph
inlined_at caller n callee own instance None = None
inlined_at caller n callee own instance (Some (Basic bindings to)) = None
inlined_at caller n callee own instance (Some (Cond test on_true on_false)) = None
inlined_at caller n callee own instance (Some (Call number inputs outputs landing)) =
    Some (record { nodes = inlined_nodes caller n callee own instance inputs outputs landing; entry = caller.entry })

-- the graph of the caller with its call at node n inlined: the callee's graph, its own variables, and the instance to
-- which they are to belong. There is none where the node is no call, or is not there
abbrev pub inlined : (caller : Graph) (n : ℕ) (callee : Graph) (own : List Variable) (instance : ℕ) → Option Graph
inlined caller n callee own instance = inlined_at caller n callee own instance (slice_get caller.nodes n)

-- how many nodes it has
abbrev pub inlined_size : (caller callee : Graph) → ℕ
inlined_size caller callee = length caller.nodes + length callee.nodes + 1
