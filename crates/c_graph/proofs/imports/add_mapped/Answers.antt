use Rattle.std.proofs.Common.{◌≡◌, ◌∙◌, ◌∷◌, [], length, map, sym, ap, subst}
use Rattle.std.proofs.lemmas.Result.{on_ok_weaker}
use Rattle.term_bank.specs.Nodes.{tree_at}
use Rattle.graph_core_spec.specs.Graph.{with_nodes}
use Rattle.graph_core.specs.Graphs.{graph_of}
use Rattle.graph_core.specs.Shared.{AreSharedBindings, IsSharedNode, shared_node_of}
use Rattle.c_graph_terms.proofs.Growing.{within_at}
use Rattle.c_graph.specs.Emitted.{binding_under}
use Rattle.c_graph.proofs.Imported.{bindings_fit, mapped_basic, mapped_call}
use Rattle.c_graph.proofs.imports.add_mapped.Goals as goal

pub add_node-requires : goal.add_node-requires
add_node-requires c =
    let ids = c.args.ids.now in
    let given : AreSharedBindings (length ids) c.in-Basic.bindings.items = subst (IsSharedNode (length ids)) c.in-Basic.is c.requires.node in
    bindings_fit (length c.args.graph.now.trees) ids c.in-Basic.bindings.items c.in-Ok-attempt.field-0.items c.requires.ids given (c.in-Ok-attempt.ensures ∙ ap (map (binding_under ids)) c.as_slice.ensures.value)

pub add_node-requires-in-Cond : goal.add_node-requires-in-Cond
add_node-requires-in-Cond c =
    let ids = c.args.ids.now in
    within_at (length c.args.graph.now.trees) ids c.in-Cond.test c.requires.ids (subst (IsSharedNode (length ids)) c.in-Cond.is c.requires.node)

pub add_node-requires-in-Call : goal.add_node-requires-in-Call
add_node-requires-in-Call c =
    let ids = c.args.ids.now in
    let n = length c.args.graph.now.trees in
    let given = subst (IsSharedNode (length ids)) c.in-Call.is c.requires.node in (
      bindings_fit n ids c.in-Call.inputs.items c.in-Ok-attempt-inputs.field-0.items c.requires.ids given.0 (c.in-Ok-attempt-inputs.ensures ∙ ap (map (binding_under ids)) c.as_slice-in-Call.ensures.value),
      bindings_fit n ids c.in-Call.outputs.items c.in-Ok-attempt-outputs.field-0.items c.requires.ids given.1 (c.in-Ok-attempt-outputs.ensures ∙ ap (map (binding_under ids)) c.as_slice-in-Call-2.ensures.value),
    )

pub returns-in-Ok-attempt : goal.returns-in-Ok-attempt
returns-in-Ok-attempt c =
    let ids = c.args.ids.now in
    let trees = c.args.graph.now.trees in
    let given : AreSharedBindings (length ids) c.in-Basic.bindings.items = subst (IsSharedNode (length ids)) c.in-Basic.is c.requires.node in
    on_ok_weaker c.add_node.result
    (λ h.
    h ∙ ap (λ n. with_nodes (graph_of c.args.graph.now) (n ∷ []))
    (mapped_basic trees ids c.in-Basic.bindings c.in-Ok-attempt.field-0 c.in-Basic.next given (c.in-Ok-attempt.ensures ∙ ap (map (binding_under ids)) c.as_slice.ensures.value)
    ∙ ap (shared_node_of (map (tree_at trees) ids)) (sym c.in-Basic.is)))
    c.add_node.ensures.nodes

pub returns-in-Ok-attempt-outputs : goal.returns-in-Ok-attempt-outputs
returns-in-Ok-attempt-outputs c =
    let ids = c.args.ids.now in
    let trees = c.args.graph.now.trees in
    let given = subst (IsSharedNode (length ids)) c.in-Call.is c.requires.node in
    on_ok_weaker c.add_node-in-Call.result
    (λ h.
    h ∙ ap (λ n. with_nodes (graph_of c.args.graph.now) (n ∷ []))
    (mapped_call trees ids c.in-Call.callee c.in-Call.landing c.in-Call.inputs c.in-Call.outputs c.in-Ok-attempt-inputs.field-0 c.in-Ok-attempt-outputs.field-0 given.0 given.1
    (c.in-Ok-attempt-inputs.ensures ∙ ap (map (binding_under ids)) c.as_slice-in-Call.ensures.value) (c.in-Ok-attempt-outputs.ensures ∙ ap (map (binding_under ids)) c.as_slice-in-Call-2.ensures.value)
    ∙ ap (shared_node_of (map (tree_at trees) ids)) (sym c.in-Call.is)))
    c.add_node-in-Call.ensures.nodes
