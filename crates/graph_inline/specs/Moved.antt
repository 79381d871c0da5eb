-- Bindings and nodes of one graph in another.
use Rattle.std.specs.Prelude.{◌≡◌, ℕ, ◌<◌, ◌+◌, ◌^◌, if◌then◌else◌, List, [], ◌∷◌, All, length, filter, Option, Some, None}
use Rattle.term_core_spec.specs.declared.Variable.{Variable}
use Rattle.term_core_spec.specs.Same.{same_variable}
use Rattle.term_core_spec.specs.Term.{Term}
use Rattle.graph_core_spec.specs.declared.Next.{Next}
use Rattle.graph_core_spec.specs.declared.Next.TheVariants as next
use Rattle.graph_core_spec.specs.Graph.{Binding, Node}
use Rattle.graph_core_spec.specs.Run.{is_shared}
use Rattle.graph_core.specs.declared.shared.SharedBinding.{SharedBinding}
use Rattle.graph_core.specs.declared.shared.SharedNode.{SharedNode}
use Rattle.graph_core.specs.declared.shared.SharedNode.TheVariants.{Basic, Cond, Call}
use Rattle.graph_core.specs.Shared.{shared_node_of, AreSharedBindings, IsSharedNode}
use Rattle.graph_inline_spec.specs.Inlined.{inlined_node, inlined_next}
use Rattle.graph_inline.specs.declared.nodes.Placing.{Placing}
use Rattle.graph_inline.specs.Taken.{named_variable, named_term, id_at, IsTaken}

-- ---- bindings

-- a binding whose variable and whose term may belong to an instance
abbrev pub moved : (variables terms : Option ℕ) → Binding → Binding
moved variables terms b = record { variable = named_variable variables b.variable; term = named_term terms b.term }

-- the same in another bank
abbrev pub moved_shared : (variables : Option ℕ) (table : List ℕ) → SharedBinding → SharedBinding
moved_shared variables table b = record { variable = named_variable variables b.variable; term = id_at table b.term }

-- those that bind what is shared
abbrev pub shared_inputs : List SharedBinding → List SharedBinding
shared_inputs bindings = filter (λ b. is_shared b.variable) bindings

abbrev pub BindingsTaken : (instance : Option ℕ) (from trees : List Term) (table : List ℕ) → List SharedBinding → Type 0
BindingsTaken instance from trees table bindings = All (λ b. IsTaken instance from trees table b.term) bindings

-- ---- nodes: of the caller, which stay, and of a callee that is inlined

abbrev pub instance_of : Option Placing → Option ℕ
instance_of None = None
instance_of (Some placing) = Some placing.instance

abbrev pub moved_next : Option Placing → Next → Next
moved_next None to = to
moved_next (Some placing) to = inlined_next placing.first placing.last to

abbrev pub moved_number : Option Placing → ℕ → ℕ
moved_number None n = n
moved_number (Some placing) n = placing.first + n

abbrev pub moved_node : Option Placing → Node → Node
moved_node None node = node
moved_node (Some placing) node = inlined_node placing.instance placing.first placing.last node

-- the tables have the terms of the node: what a further call takes is of another function, and stays as it is
abbrev pub NodeTaken : (instance : Option ℕ) (from trees : List Term) (renamed kept : List ℕ) → SharedNode → Type 0
NodeTaken instance from trees renamed kept (Basic bindings to) = BindingsTaken instance from trees renamed bindings.items
NodeTaken instance from trees renamed kept (Cond test on_true on_false) = IsTaken instance from trees renamed test
NodeTaken instance from trees renamed kept (Call callee inputs outputs landing) =
    BindingsTaken instance from trees renamed inputs.items × BindingsTaken None from trees kept outputs.items

abbrev pub NodesTaken : (instance : Option ℕ) (from trees : List Term) (renamed kept : List ℕ) → List SharedNode → Type 0
NodesTaken instance from trees renamed kept nodes = All (NodeTaken instance from trees renamed kept) nodes

-- ---- what is asked, so that every number is one

abbrev pub NumberFits : Option Placing → ℕ → Type 0
NumberFits None n = Unit {0}
NumberFits (Some placing) n = placing.first + n < 2 ^ 64

abbrev pub NextFits : Option Placing → Next → Type 0
NextFits placing (next.At n) = NumberFits placing n
NextFits placing next.Ret = Unit {0}
NextFits placing next.Err = Unit {0}

abbrev pub NodeFits : Option Placing → SharedNode → Type 0
NodeFits placing (Basic bindings to) = NextFits placing to
NodeFits placing (Cond test on_true on_false) = NextFits placing on_true × NextFits placing on_false
NodeFits placing (Call callee inputs outputs landing) = NumberFits placing landing

-- the tables have so many terms
abbrev pub NodeWithin : (renamed kept : ℕ) → SharedNode → Type 0
NodeWithin renamed kept (Basic bindings to) = AreSharedBindings renamed bindings.items
NodeWithin renamed kept (Cond test on_true on_false) = test < renamed
NodeWithin renamed kept (Call callee inputs outputs landing) = AreSharedBindings renamed inputs.items × AreSharedBindings kept outputs.items

-- this is the node in the other graph
pub record IsMoved (placing : Option Placing) (from trees : List Term) (old new : SharedNode) : Type 0 where
  pub within : IsSharedNode (length trees) new
  pub is : shared_node_of trees new ≡ moved_node placing (shared_node_of from old)

-- ---- what a call starts with and takes

-- the term of the first binding of a variable, if one binds it
unfoldable pub input_of : List SharedBinding → Variable → Option ℕ
input_of [] v = None
input_of (b ∷ bindings) v = if same_variable v b.variable then Some b.term else input_of bindings v

-- the table has the terms that a call takes from its callee
abbrev pub OutputsTaken : (from trees : List Term) (table : List ℕ) → SharedNode → Type 0
OutputsTaken from trees table (Basic bindings to) = Unit {0}
OutputsTaken from trees table (Cond test on_true on_false) = Unit {0}
OutputsTaken from trees table (Call callee inputs outputs landing) = BindingsTaken None from trees table outputs.items
