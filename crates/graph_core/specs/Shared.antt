-- Nodes whose terms are indices in a list of trees, and what contracts see of a graph.
use Rattle.std.specs.Prelude.{ℕ, ◌<◌, List, map, All, Vec, refl}
use Rattle.std.specs.Global.{Global}
use Rattle.std.specs.Coded.{Coded, code_by, coded×, coded_list, coded_ℕ}
use Rattle.term_core_spec.specs.Term.{Term}
use Rattle.term_core_spec.specs.Coded.{term_code}
use Rattle.term_bank.specs.Nodes.{tree_at}
use Rattle.graph_core_spec.specs.Graph as spec
use Rattle.graph_core.specs.declared.shared.SharedBinding.{SharedBinding}
use Rattle.graph_core.specs.declared.shared.SharedNode.{SharedNode}
use Rattle.graph_core.specs.declared.shared.SharedNode.TheVariants.{Basic, Cond, Call}
use Rattle.graph_core.specs.contracts.shared.SharedNode as node_row

-- ---- the nodes of trees

abbrev pub shared_binding_of : List Term → SharedBinding → spec.Binding
shared_binding_of trees b = record { variable = b.variable; term = tree_at trees b.term }

abbrev pub shared_bindings_of : List Term → Vec SharedBinding Global → List spec.Binding
shared_bindings_of trees bindings = map (shared_binding_of trees) bindings.items

abbrev pub shared_node_of : List Term → SharedNode → spec.Node
shared_node_of trees (Basic bindings next) = spec.Basic (shared_bindings_of trees bindings) next
shared_node_of trees (Cond test on_true on_false) = spec.Cond (tree_at trees test) on_true on_false
shared_node_of trees (Call callee inputs outputs landing) =
    spec.Call callee (shared_bindings_of trees inputs) (shared_bindings_of trees outputs) landing

-- ---- each term is one of so many

abbrev pub AreSharedBindings : ℕ → List SharedBinding → Type 0
AreSharedBindings n bindings = All (λ (b : SharedBinding). b.term < n) bindings

abbrev pub IsSharedNode : ℕ → SharedNode → Type 0
IsSharedNode n (Basic bindings next) = AreSharedBindings n bindings.items
IsSharedNode n (Cond test on_true on_false) = test < n
IsSharedNode n (Call callee inputs outputs landing) = AreSharedBindings n inputs.items × AreSharedBindings n outputs.items

-- ---- what contracts see of a graph: the terms of its bank, its nodes over these, and the node at which a run begins

pub record Stored : Type 0 where
  pub trees : List Term
  pub nodes : List SharedNode
  pub entry : ℕ

abbrev pub stored_code : Coded Stored
stored_code =
    code_by (List Term × (List SharedNode × ℕ)) (coded× (coded_list term_code) (coded× (coded_list node_row.the_row.coded) coded_ℕ))
    (λ g. (g.trees, (g.nodes, g.entry))) (λ p. record { trees = p.0; nodes = p.1.0; entry = p.1.1 }) (λ g. refl)
