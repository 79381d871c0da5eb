use Rattle.std.proofs.Common.{◌≡◌, ◌∙◌, ℕ, ◌+◌, ◌<◌, List, [], ◌∷◌, length, map, take, drop, get_or, refl, sym, ap, subst, arith}
use Rattle.std.proofs.lemmas.List.{length-map}
use Rattle.term_core_spec.specs.Term.{Term}
use Rattle.graph_core_spec.specs.declared.Next.TheVariants as next
use Rattle.graph_core_spec.specs.Graph.{Node, Basic, Graph, with_nodes}
use Rattle.graph_core.specs.Graphs.{graph_of}
use Rattle.graph_core.specs.Shared.{shared_node_of}
use Rattle.graph_inline.specs.Moved.{instance_of, moved_node, NodesTaken}
use Rattle.graph_inline.proofs.Placing.{none_added, added_one}
use Rattle.graph_inline.proofs.nodes.add_nodes.Goals as goal

nothing : Node
nothing = Basic [] next.Ret

pub loop-k-init : goal.loop-k-init
loop-k-init c = record { added = none_added (graph_of c.args.graph.now) (moved_node c.args.placing) (graph_of c.args.source.now).nodes c.args.first; trees = refl }

pub add_node-requires-clause-taken : goal.add_node-requires-clause-taken
add_node-requires-clause-taken c =
    subst (λ (trees : List Term). NodesTaken (instance_of c.args.placing) c.args.source.now.trees trees c.args.renamed.now c.args.kept.now c.args.source.now.nodes)
    (sym c.loop-k.invariant.trees) c.requires.taken

pub returns-in_err-add_node-clause-trees : goal.returns-in_err-add_node-clause-trees
returns-in_err-add_node-clause-trees c = c.add_node.ensures.trees ∙ c.loop-k.invariant.trees

pub loop-k-preserved : goal.loop-k-preserved
loop-k-preserved c =
    let all = (graph_of c.args.source.now).nodes in
    let f = moved_node c.args.placing in
    let k = c.loop-k.k in
    let less : k < length all = omega (arith, c.loop-k-test.true, c.requires.range.1, length-map c.args.source.now.nodes (shared_node_of c.args.source.now.trees)) in
    record {
      added = c.in_ok-add_node.ensures.added nothing
          ∙ ap (λ (g : Graph). with_nodes g (f (get_or all k nothing) ∷ [])) c.loop-k.invariant.added
          ∙ added_one (graph_of c.args.graph.now) f all c.args.first k nothing (omega arith) less;
      trees = c.in_ok-add_node.ensures.trees ∙ c.loop-k.invariant.trees;
    }

pub returns-clause-added : goal.returns-clause-added
returns-clause-added c =
    let end : c.loop-k.k ≡ c.args.last = omega (arith, c.loop-k-test.false, c.requires.range.0) in
    c.loop-k.invariant.added
    ∙ ap (λ (k : ℕ). with_nodes (graph_of c.args.graph.now) (map (moved_node c.args.placing) (drop c.args.first (take k (graph_of c.args.source.now).nodes)))) end

pub returns-clause-trees : goal.returns-clause-trees
returns-clause-trees c = c.loop-k.invariant.trees
