use Rattle.std.proofs.Common.{◌≡◌, ◌∙◌, ℕ, List, Option, None, map, sym, ap, ap₂, subst}
use Rattle.graph_core_spec.specs.declared.Next.{Next}
use Rattle.graph_core.specs.declared.shared.SharedBinding.{SharedBinding}
use Rattle.graph_core.specs.declared.shared.SharedNode.{SharedNode}
use Rattle.graph_core.specs.declared.shared.SharedNode.TheVariants.{Basic, Cond, Call}
use Rattle.graph_inline.specs.Moved.{IsMoved, NodeTaken, instance_of, moved_shared}
use Rattle.graph_inline.proofs.Placing.{basic_moved, call_moved}
use Rattle.graph_inline.proofs.nodes.move_node.Goals as goal

pub returns-in_ok-bindings-in-Basic : goal.returns-in_ok-bindings-in-Basic
returns-in_ok-bindings-in-Basic c = λ from trees taken.
    let renamed = c.args.renamed.now in
    let kept = c.args.kept.now in
    let placing = c.args.placing in
    let found = c.in_ok-bindings-in-Basic.bindings in
    let h = subst (NodeTaken (instance_of placing) from trees renamed kept) c.in-Basic.is taken in
    let e = c.in_ok-bindings-in-Basic.ensures
    ∙ ap₂ (λ (v : Option ℕ) (bs : List SharedBinding). map (moved_shared v renamed) bs) c.instance_of-variables.ensures c.as_slice.ensures.value in
    subst (λ (n : SharedNode). IsMoved placing from trees n (Basic found c.move_next-next.result)) (sym c.in-Basic.is)
    (subst (λ (to : Next). IsMoved placing from trees (Basic c.in-Basic.bindings c.in-Basic.next) (Basic found to)) (sym c.move_next-next.ensures)
    (basic_moved placing from trees renamed kept c.in-Basic.bindings found c.in-Basic.next h e))

pub returns-in_ok-outputs-in-Call : goal.returns-in_ok-outputs-in-Call
returns-in_ok-outputs-in-Call c = λ from trees taken.
    let renamed = c.args.renamed.now in
    let kept = c.args.kept.now in
    let placing = c.args.placing in
    let ins = c.in_ok-inputs-in-Call.inputs in
    let outs = c.in_ok-outputs-in-Call.outputs in
    let h = subst (NodeTaken (instance_of placing) from trees renamed kept) c.in-Call.is taken in
    let e_in = c.in_ok-inputs-in-Call.ensures ∙ ap (λ (bs : List SharedBinding). map (moved_shared None renamed) bs) c.as_slice-in-Call.ensures.value in
    let e_out = c.in_ok-outputs-in-Call.ensures ∙ ap₂ (λ (v : Option ℕ) (bs : List SharedBinding). map (moved_shared v kept) bs) c.instance_of-variables-in-Call.ensures c.as_slice-in-Call-2.ensures.value in
    subst (λ (n : SharedNode). IsMoved placing from trees n (Call c.in-Call.callee ins outs c.move_number.result)) (sym c.in-Call.is)
    (subst (λ (l : ℕ). IsMoved placing from trees (Call c.in-Call.callee c.in-Call.inputs c.in-Call.outputs c.in-Call.landing) (Call c.in-Call.callee ins outs l)) (sym c.move_number.ensures)
    (call_moved placing from trees renamed kept c.in-Call.callee c.in-Call.inputs c.in-Call.outputs ins outs c.in-Call.landing h.0 h.1 e_in e_out))
