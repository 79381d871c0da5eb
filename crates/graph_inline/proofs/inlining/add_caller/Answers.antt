use Rattle.std.proofs.Common.{◌≡◌, ◌∙◌, ℕ, ◌+◌, ◌<◌, None, List, [], ◌∷◌, length, map, take, drop, sym, ap, ap₂, subst, arith}
use Rattle.std.proofs.lemmas.List.{length-map}
use Rattle.graph_core_spec.specs.Graph.{Graph, with_nodes}
use Rattle.graph_core.specs.Graphs.{graph_of}
use Rattle.graph_core.specs.Shared.{shared_node_of}
use Rattle.term_core_spec.specs.Term.{Term}
use Rattle.graph_inline.specs.Moved.{moved_node, NodesTaken}
use Rattle.graph_inline.proofs.Moving.{caller_taken}
use Rattle.graph_inline.proofs.Placing.{replaced}
use Rattle.graph_inline.proofs.inlining.add_caller.Goals as goal

pub add_nodes-requires-clause-taken : goal.add_nodes-requires-clause-taken
add_nodes-requires-clause-taken c = caller_taken c.args.caller.now.trees c.args.graph.now.trees c.args.table.now c.requires.table c.args.caller.now.nodes c.requires.within

pub add_nodes-requires-2-clause-taken : goal.add_nodes-requires-2-clause-taken
add_nodes-requires-2-clause-taken c =
    subst (λ (trees : List Term). NodesTaken None c.args.caller.now.trees trees c.args.table.now c.args.table.now c.args.caller.now.nodes)
    (sym (c.in_ok-add_shared.ensures.trees ∙ c.in_ok-add_nodes.ensures.trees))
    (caller_taken c.args.caller.now.trees c.args.graph.now.trees c.args.table.now c.requires.table c.args.caller.now.nodes c.requires.within)

pub returns-clause-added : goal.returns-clause-added
returns-clause-added c =
    let all = (graph_of c.args.caller.now).nodes in
    let less : c.args.node < length all = omega (arith, c.requires.node, length-map c.args.caller.now.nodes (shared_node_of c.args.caller.now.trees)) in
    c.in_ok-add_nodes-2.ensures.added
    ∙ ap (λ (k : ℕ). with_nodes (graph_of c.add_shared.new.self) (map (moved_node None) (drop (c.args.node + 1) (take k all)))) c.len-count.ensures.count
    ∙ ap (λ (g : Graph). with_nodes g (map (moved_node None) (drop (c.args.node + 1) (take (length all) all))))
    (c.in_ok-add_shared.ensures.added
    ∙ ap₂ (λ (g : Graph) (trees : List Term). with_nodes g (shared_node_of trees c.args.start ∷ [])) c.in_ok-add_nodes.ensures.added c.in_ok-add_nodes.ensures.trees)
    ∙ replaced (graph_of c.args.graph.now) all c.args.node (shared_node_of c.args.graph.now.trees c.args.start) less
