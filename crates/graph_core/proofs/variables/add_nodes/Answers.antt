use Rattle.std.proofs.Common.{◌≡◌, ◌∙◌, ◌+◌, ◌∷◌, List, length, map, drop, sym, ap, subst}
use Rattle.std.proofs.lemmas.List.{drop_more}
use Rattle.graph_core_spec.specs.Variables.{occurrences_in_node, occurrences_in_nodes, with_variables}
use Rattle.graph_core.specs.declared.shared.SharedNode.{SharedNode}
use Rattle.graph_core.specs.Shared.{shared_node_of, IsSharedNode}
use Rattle.graph_core.proofs.Adding.{left}
use Rattle.graph_core.proofs.variables.add_nodes.Goals as goal

pub loop-node-preserved : goal.loop-node-preserved
loop-node-preserved c =
    let rest : drop c.loop-node.node-index c.args.nodes.now ≡ c.node-item.result ∷ drop (c.loop-node.node-index + 1) c.args.nodes.now =
    drop_more c.args.nodes.now c.loop-node.node-index c.node-item.result c.loop-node-test.true
    ∙ ap (λ (x : SharedNode). x ∷ drop (c.loop-node.node-index + 1) c.args.nodes.now) (sym c.node-item.is) in
    record {
      added = left c.loop-node.variables.keys c.add_node.new.variables.keys (occurrences_in_node (shared_node_of c.args.bank.now c.node-item.result))
          (occurrences_in_nodes (map (shared_node_of c.args.bank.now) (drop (c.loop-node.node-index + 1) c.args.nodes.now)))
          (with_variables c.args.variables.now.keys (occurrences_in_nodes (map (shared_node_of c.args.bank.now) c.args.nodes.now)))
          c.in_ok-add_node.ensures.added
          (ap (λ (xs : List SharedNode). with_variables c.loop-node.variables.keys (occurrences_in_nodes (map (shared_node_of c.args.bank.now) xs))) (sym rest) ∙ c.loop-node.invariant.added);
      seen = c.in_ok-add_node.ensures.seen;
    }

pub add_node-requires-clause-within : goal.add_node-requires-clause-within
add_node-requires-clause-within c =
    subst (IsSharedNode (length c.args.bank.now)) (sym c.node-item.is) (c.requires.within c.loop-node.node-index c.node-item.result c.loop-node-test.true)
