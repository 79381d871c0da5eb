use Rattle.std.proofs.Common.{◌≡◌, ◌∙◌, List, length, ap, subst, refl}
use Rattle.std.specs.Prelude.{Some, None, slice_get, option_map}
use Rattle.std.proofs.lemmas.Option.{slice_get-map, slice_get_past, slice_get_read}
use Rattle.graph_core.specs.declared.shared.SharedNode.{SharedNode}
use Rattle.graph_core.specs.Shared.{shared_node_of}
use Rattle.graph_core.specs.Graphs.{graph_of}
use Rattle.proof_tree.proofs.Ahead.{edges_from, no_edges}
use Rattle.proof_tree.proofs.reachable.follow.Goals as goal

pub returns-in-None : goal.returns-in-None
returns-in-None c =
    let none : slice_get c.args.graph.now.nodes c.args.node ≡ None =
    subst (λ (xs : List SharedNode). slice_get xs c.args.node ≡ None) c.nodes.ensures.nodes (slice_get_past c.nodes.result.now c.args.node c.in-None.ensures.lookup.3) in
    no_edges (graph_of c.args.graph.now) c.args.node (slice_get-map (shared_node_of c.args.graph.now.trees) c.args.graph.now.nodes c.args.node ∙ ap (option_map (shared_node_of c.args.graph.now.trees)) none) c.args.found.now.keys

pub returns-in_ok-add_edges-in-Some : goal.returns-in_ok-add_edges-in-Some
returns-in_ok-add_edges-in-Some c =
    let here : slice_get c.args.graph.now.nodes c.args.node ≡ Some c.in-Some.node.now =
    subst (λ (xs : List SharedNode). slice_get xs c.args.node ≡ Some c.in-Some.node.now) c.nodes.ensures.nodes
    (slice_get_read c.nodes.result.now (length c.nodes.result.now) c.args.node c.in-Some.node.now refl c.in-Some.ensures.lookup.3.0 c.in-Some.ensures.lookup.1) in
    edges_from (graph_of c.args.graph.now) c.args.node (shared_node_of c.args.graph.now.trees c.in-Some.node.now)
    (slice_get-map (shared_node_of c.args.graph.now.trees) c.args.graph.now.nodes c.args.node ∙ ap (option_map (shared_node_of c.args.graph.now.trees)) here) c.args.found.now.keys c.add_edges.new.found.keys
    (c.in_ok-add_edges-in-Some.ensures c.args.graph.now.trees)
