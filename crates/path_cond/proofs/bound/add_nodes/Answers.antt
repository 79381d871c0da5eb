use Rattle.std.proofs.Common.{◌≡◌, ◌∙◌, ℕ, ◌<◌, ◌∷◌, [], List, length, get_or, map, sym, subst, arith}
use Rattle.std.proofs.lemmas.List.{length-map, get_or_default}
use Rattle.std.proofs.Math.ListN.{get_or-map}
use Rattle.graph_core.specs.declared.shared.SharedNode.{SharedNode}
use Rattle.graph_core.specs.Shared.{shared_node_of}
use Rattle.path_cond.specs.Bound.{IsListedNode}
use Rattle.path_cond.proofs.bound.add_nodes.Goals as goal

pub returns : goal.returns
returns c = λ trees k d less.
    let long : length (map (shared_node_of trees) c.args.nodes.now) ≡ length c.args.nodes.now = length-map c.args.nodes.now (shared_node_of trees) in
    let within : k < length c.args.nodes.now = omega arith in
    let other : SharedNode = some_node c.args.nodes.now k within in
    let is : get_or (map (shared_node_of trees) c.args.nodes.now) k d ≡ shared_node_of trees (get_or c.args.nodes.now k other) =
    get_or_default (map (shared_node_of trees) c.args.nodes.now) k d (shared_node_of trees other) less ∙ get_or-map (shared_node_of trees) c.args.nodes.now k other in
    subst (IsListedNode c.loop-node.variables.keys) (sym is) (c.loop-node.invariant trees k other (omega arith))
  where
    some_node : (ns : List SharedNode) (k : ℕ) → k < length ns → SharedNode
    some_node [] k less = absurd (omega arith)
    some_node (n ∷ ns) k less = n
