-- The run of a set of graphs, with a stack of waiting frames.
use Rattle.std.specs.Prelude.{◌≡◌, ◌⊎◌, ℕ, ◌==◌, nat_lt, ◌&&◌, ◌||◌, Bool, true, false, if◌then◌else◌, is_some, List, [], ◌∷◌, ◌++◌, Option, Some, None, slice_get}
use Rattle.term_core_spec.specs.declared.Variable.{Variable}
use Rattle.term_core_spec.specs.declared.Family.{Family}
use Rattle.term_core_spec.specs.declared.Family.TheVariants as family
use Rattle.term_core_spec.specs.declared.Sort.{Sort}
use Rattle.term_core_spec.specs.declared.Sort.TheVariants as sort
use Rattle.term_core_spec.specs.Sort.{is_memory}
use Rattle.term_core_spec.specs.Value.{Value, Truth, Number, Bytes, Assignment, value}
use Rattle.term_core_spec.specs.Same.{same_variable}
use Rattle.graph_core_spec.specs.declared.Next.{Next}
use Rattle.graph_core_spec.specs.declared.Next.TheVariants as next
use Rattle.graph_core_spec.specs.Graph.{Binding, Node, Basic, Cond, Call, Graph, Graphs, node_at}
use Rattle.graph_core_spec.specs.TransitionSystem.{TransitionSystem}

-- ---- the values of variables

abbrev pub is_register : Family → Bool
is_register family.Register = true
is_register f = false

abbrev pub is_further : Family → Bool
is_further family.Further = true
is_further f = false

-- the ends of the barred zone: of the further words, which only graphs of C have, the first two
abbrev pub is_zone_end : Variable → Bool
is_zone_end v = is_further v.family && nat_lt v.index 2

-- memory, the machine's registers and the ends of the barred zone exist once, for caller and callee alike; every other
-- variable belongs to the frame of its function
abbrev pub is_shared : Variable → Bool
is_shared v = is_memory v.sort || (is_register v.family || is_zone_end v)

-- what a function's own variable holds before it is bound
abbrev pub unset : Sort → Value
unset sort.Truth = Truth false
unset (sort.Word width) = Number width 0
unset sort.Memory = Bytes (λ address. 0)

-- the values after some bindings, all at once: their terms speak of `values`, and what they don't bind stays as
-- in `rest`
unfoldable pub bound : List Binding → Assignment → Assignment → Assignment
bound [] values rest = rest
bound (b ∷ bindings) values rest = λ v. if same_variable v b.variable then value values b.term else bound bindings values rest v

-- the values with which a callee starts
abbrev pub entered : List Binding → Assignment → Assignment
entered inputs values = bound inputs values (λ v. if is_shared v then values v else unset v.sort)

-- the values in the caller, from those with which the callee returned and those that the caller had
abbrev pub resumed : List Binding → Assignment → Assignment → Assignment
resumed outputs values waited = bound outputs values (λ v. if is_shared v then values v else waited v)

abbrev pub is_truth : Value → Bool
is_truth (Truth truth) = truth
is_truth (Number width number) = false
is_truth (Bytes bytes) = false

-- ---- states

-- a function that waits for its callee: its graph, the node of the call, where it continues, what it takes from the
-- callee, and the values of its own variables
pub record Waiting : Type 0 where
  pub graph : ℕ
  pub call : ℕ
  pub landing : ℕ
  pub outputs : List Binding
  pub values : Assignment

-- the innermost waiting function comes first
pub data State : Type 0 where
  Running : (graph node : ℕ) → (values : Assignment) → (below : List Waiting) → State
  Returned : (values : Assignment) → State
  Failed : State

-- ---- steps

-- a graph returns: to the function that waits for it, if one does
abbrev pub leave : Assignment → List Waiting → State
leave values [] = Returned values
leave values (f ∷ below) = Running f.graph f.landing (resumed f.outputs values f.values) below

abbrev pub go : ℕ → Next → Assignment → List Waiting → State
go g (next.At n) values below = Running g n values below
go g next.Ret values below = leave values below
go g next.Err values below = Failed

-- a callee begins, if it is there
abbrev pub enter : ℕ → Option Graph → Assignment → List Waiting → State
enter callee None values below = Failed
enter callee (Some graph) values below = Running callee graph.entry values below

-- what a node does; one that is missing fails
abbrev pub act : Graphs → ℕ → ℕ → Assignment → List Waiting → Option Node → State
act graphs g n values below None = Failed
act graphs g n values below (Some (Basic bindings after)) = go g after (bound bindings values values) below
act graphs g n values below (Some (Cond test on_true on_false)) = go g (if is_truth (value values test) then on_true else on_false) values below
act graphs g n values below (Some (Call callee inputs outputs landing)) =
    enter callee (slice_get graphs callee) (entered inputs values)
    (record { graph = g; call = n; landing = landing; outputs = outputs; values = values } ∷ below)

-- an ended state steps to itself
unfoldable pub step : Graphs → State → State
step graphs (Running g n values below) = act graphs g n values below (node_at graphs g n)
step graphs (Returned values) = Returned values
step graphs Failed = Failed

-- the state with further functions that wait, after those that wait already: where it has returned, the first of
-- them continues
abbrev pub with_waiting : List Waiting → State → State
with_waiting rest (Running g n values below) = Running g n values (below ++ rest)
with_waiting rest (Returned values) = leave values rest
with_waiting rest Failed = Failed

-- ---- the transition system of a set of graphs, one of which is the outermost

abbrev pub has_returned : State → Bool
has_returned (Running g n values below) = false
has_returned (Returned values) = true
has_returned Failed = false

abbrev pub has_failed : State → Bool
has_failed (Running g n values below) = false
has_failed (Returned values) = false
has_failed Failed = true

-- the state is at a node of the outermost graph, and no function waits
abbrev pub is_at : Graphs → ℕ → ℕ → State → Bool
is_at graphs outermost n (Running g m values []) = g == outermost && (m == n && is_some (node_at graphs g m))
is_at graphs outermost n (Running g m values (f ∷ below)) = false
is_at graphs outermost n (Returned values) = false
is_at graphs outermost n Failed = false

abbrev pub system_of : Graphs → ℕ → TransitionSystem State
system_of graphs outermost = record {
  step = step graphs;
  returned = has_returned;
  failed = has_failed;
  at = is_at graphs outermost;
}

-- ---- edges and paths; a call has an edge to its landing node

abbrev pub GoesTo : Node → ℕ → Type 0
GoesTo (Basic bindings after) n = after ≡ next.At n
GoesTo (Cond test on_true on_false) n = (on_true ≡ next.At n) ⊎ (on_false ≡ next.At n)
GoesTo (Call callee inputs outputs landing) n = landing ≡ n

pub record IsEdge (graphs : Graphs) (g m n : ℕ) : Type 0 where
  pub node : Node
  pub here : node_at graphs g m ≡ Some node
  pub goes : GoesTo node n

-- a path of one edge or more
pub data IsPath (graphs : Graphs) (g m : ℕ) : ℕ → Type 0 where
  first : (n : ℕ) → IsEdge graphs g m n → IsPath graphs g m n
  on : (n o : ℕ) → IsPath graphs g m n → IsEdge graphs g n o → IsPath graphs g m o

-- the node is a call, and this is its landing node
pub record Lands (graphs : Graphs) (g m l : ℕ) : Type 0 where
  pub callee : ℕ
  pub inputs : List Binding
  pub outputs : List Binding
  pub here : node_at graphs g m ≡ Some (Call callee inputs outputs l)
