use Rattle.std.proofs.Common.{◌≡◌, ◌∙◌, ℕ, ◌+◌, List, [], ◌∷◌, ◌++◌, map, take, get_or, sym, ap, ap₂, arith}
use Rattle.std.proofs.lemmas.List.{take_more, take_all, map-append}
use Rattle.graph_core_spec.specs.Graph.{Node}
use Rattle.graph_core.specs.declared.shared.SharedNode.{SharedNode}
use Rattle.graph_core.specs.Shared.{shared_node_of}
use Rattle.visit_walk_spec.specs.declared.Successors.{Successors}
use Rattle.visit_walk_spec.specs.Shape as spec
use Rattle.visit_walk.proofs.shape.add_successors.Goals as goal

pub loop-node-preserved : goal.loop-node-preserved
loop-node-preserved c = λ trees.
    let f : SharedNode → Node = shared_node_of trees in
    let g : Node → Successors = spec.successors_of in
    let ns : List SharedNode = c.args.nodes.now in
    let i : ℕ = c.loop-node.node-index in
    let n : SharedNode = c.node-item.result in
    let before : List Successors = map g (map f (take i ns)) in
    let next : map g (map f (take (i + 1) ns)) ≡ before ++ g (f n) ∷ [] =
    ap (λ (l : List SharedNode). map g (map f l)) (take_more ns i n c.loop-node-test.true) ∙ ap (map g) (map-append f (take i ns) (get_or ns i n ∷ []))
    ∙ map-append g (map f (take i ns)) (f (get_or ns i n) ∷ []) ∙ ap (λ (x : SharedNode). before ++ g (f x) ∷ []) (sym c.node-item.is) in
    c.in_ok-push.ensures.items ∙ ap₂ (λ (xs : List Successors) (x : Successors). xs ++ x ∷ []) (c.loop-node.invariant trees) (c.successors_of.ensures trees) ∙ sym next

pub returns : goal.returns
returns c = λ trees.
    c.loop-node.invariant trees ∙ ap (λ (l : List SharedNode). map spec.successors_of (map (shared_node_of trees) l)) (take_all c.loop-node.node-index c.args.nodes.now (omega arith))
