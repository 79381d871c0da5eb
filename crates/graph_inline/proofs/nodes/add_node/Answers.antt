use Rattle.std.proofs.Common.{◌≡◌, ◌∙◌, List, get_or, ap}
use Rattle.graph_core.specs.declared.shared.SharedNode.{SharedNode}
use Rattle.graph_inline.specs.Moved.{instance_of, NodeTaken, NodeFits}
use Rattle.graph_inline.proofs.Moving.{node_within}
use Rattle.graph_inline.proofs.Placing.{all_at}
use Rattle.graph_inline.proofs.nodes.add_node.Goals as goal

pub move_node-requires-clause-within : goal.move_node-requires-clause-within
move_node-requires-clause-within c =
    let node = c.index-nodes-k.result in
    node_within (instance_of c.args.placing) c.args.source.now.trees c.args.graph.now.trees c.args.renamed.now c.args.kept.now node
    (all_at (NodeTaken (instance_of c.args.placing) c.args.source.now.trees c.args.graph.now.trees c.args.renamed.now c.args.kept.now) c.args.source.now.nodes c.args.k node
    c.requires.taken c.requires.k (c.index-nodes-k.is ∙ ap (λ (ns : List SharedNode). get_or ns c.args.k node) c.nodes-nodes.ensures.nodes))

pub move_node-requires-clause-fits : goal.move_node-requires-clause-fits
move_node-requires-clause-fits c =
    let node = c.index-nodes-k.result in
    all_at (NodeFits c.args.placing) c.args.source.now.nodes c.args.k node c.requires.fits c.requires.k
    (c.index-nodes-k.is ∙ ap (λ (ns : List SharedNode). get_or ns c.args.k node) c.nodes-nodes.ensures.nodes)

pub add_shared-requires : goal.add_shared-requires
add_shared-requires c =
    let node = c.index-nodes-k.result in
    (c.in_ok-node.ensures c.args.source.now.trees c.args.graph.now.trees
    (all_at (NodeTaken (instance_of c.args.placing) c.args.source.now.trees c.args.graph.now.trees c.args.renamed.now c.args.kept.now) c.args.source.now.nodes c.args.k node
    c.requires.taken c.requires.k (c.index-nodes-k.is ∙ ap (λ (ns : List SharedNode). get_or ns c.args.k node) c.nodes-nodes.ensures.nodes))).within
