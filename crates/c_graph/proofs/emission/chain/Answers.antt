use Rattle.std.proofs.Common.{◌≡◌, ◌∙◌, ℕ, ◌+◌, ◌-◌, ◌<◌, ◌≤◌, List, ◌∷◌, ◌++◌, [], length, map, drop, get_or, refl, sym, ap, subst, arith}
use Rattle.term_core_spec.specs.Term.{Term}
use Rattle.term_bank.specs.Nodes.{tree_at}
use Rattle.graph_core_spec.specs.Graph.{Cond, Node, with_nodes}
use Rattle.graph_core_spec.specs.declared.Next.TheVariants.{Err}
use Rattle.graph_core.specs.Graphs.{graph_of}
use Rattle.c_graph_spec.specs.Layout.{chain, first}
use Rattle.c_graph_terms.proofs.Growing.{within_at}
use Rattle.c_graph.proofs.Chains.{chain_at, chain_past, first_as, test_as}
use Rattle.c_graph.proofs.WithNodes.{added_all, added_of}
use Rattle.c_graph.proofs.Ids.{any_default}
use Rattle.c_graph.proofs.emission.chain.Goals as goal

pub loop-i-preserved : goal.loop-i-preserved
loop-i-preserved c =
    let trees = c.args.graph.now.trees in
    let tests = c.args.tests.now in
    let i = c.loop-i.i in
    let at = c.args.at in
    let to = c.args.to in
    let id = get_or tests i 0 in
    let below : i < length tests = omega arith in
    let left : ℕ = length tests - i - 1 in
    let begin : ℕ = at + (i + 1) in
    let end = c.in-Ok-attempt.ensures in
    let same : c.loop-i.graph.trees ≡ trees = c.loop-i.invariant.trees in
    let next : c.first.result ≡ first left begin to = first_as _ left _ begin to c.first.result c.first.ensures (omega arith) (omega arith) in
    let node : Node = Cond (tree_at trees id) (first left begin to) Err in
    let here : chain (map (tree_at trees) (drop i tests)) (at + i) to ≡ node ∷ chain (map (tree_at trees) (drop (i + 1) tests)) begin to =
    chain_at trees tests i id left (at + i) begin to below (any_default tests i 0 id below) (omega arith) (omega arith) in
    let added : graph_of c.add_node.new.graph ≡ with_nodes (graph_of c.loop-i.graph) (node ∷ []) =
    c.in-Ok-attempt-2.ensures.nodes ∙ ap (λ (n : Node). with_nodes (graph_of c.loop-i.graph) (n ∷ [])) (test_as c.loop-i.graph.trees trees id c.first.result (first left begin to) (tree_at trees id) same refl next) in
    record {
      trees = c.add_node.ensures.trees ∙ same;
      whole = added_of (graph_of c.loop-i.graph) (graph_of c.add_node.new.graph) (with_nodes (graph_of c.args.graph.now) (chain (map (tree_at trees) tests) at to)) (node ∷ []) (chain (map (tree_at trees) (drop (i + 1) tests)) begin to)
          added (ap (with_nodes (graph_of c.loop-i.graph)) (sym here) ∙ c.loop-i.invariant.whole);
    }

pub returns-2-clause-nodes : goal.returns-2-clause-nodes
returns-2-clause-nodes c =
    let trees = c.args.graph.now.trees in
    let tests = c.args.tests.now in
    let i = c.loop-i.i in
    let past : length tests ≤ i = omega arith in
    added_all (graph_of c.loop-i.graph) (with_nodes (graph_of c.args.graph.now) (chain (map (tree_at trees) tests) c.args.at c.args.to)) (chain (map (tree_at trees) (drop i tests)) (c.args.at + i) c.args.to)
    (chain_past trees tests i (c.args.at + i) c.args.to past) c.loop-i.invariant.whole

pub add_node-requires : goal.add_node-requires
add_node-requires c =
    let inside = within_at (length c.args.graph.now.trees) c.args.tests.now c.loop-i.i c.requires (omega arith) in
    subst (λ l. get_or c.args.tests.now c.loop-i.i 0 < length l) (sym c.loop-i.invariant.trees) inside
