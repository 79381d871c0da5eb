use Rattle.std.proofs.Common.{List, map, sym, subst}
use Rattle.std.specs.Prelude.{OnOk}
use Rattle.graph_core.specs.declared.shared.SharedBinding.{SharedBinding}
use Rattle.graph_core.specs.declared.shared.SharedNode.{SharedNode}
use Rattle.graph_core.specs.Shared.{shared_binding_of, shared_node_of}
use Rattle.path_cond.specs.Bound.{AreListed, IsListedNode}
use Rattle.path_cond.proofs.bound.add_node.Goals as goal

pub returns-in-Basic-clause-listed : goal.returns-in-Basic-clause-listed
returns-in-Basic-clause-listed c = λ trees.
    subst (λ (n : SharedNode). OnOk c.add_bindings.result (IsListedNode c.add_bindings.new.variables.keys (shared_node_of trees n))) (sym c.in-Basic.is)
    (subst (λ (bs : List SharedBinding). OnOk c.add_bindings.result (AreListed c.add_bindings.new.variables.keys (map (shared_binding_of trees) bs))) c.as_slice.ensures.value
    (c.add_bindings.ensures.listed trees))
