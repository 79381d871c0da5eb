use Rattle.std.proofs.Common.{◌≡◌, ◌∙◌, ℕ, ◌+◌, ◌<◌, ◌≤◌, List, ◌∷◌, ◌++◌, [], length, take, sym, ap, subst, arith}
use Rattle.std.proofs.lemmas.List.{take_all}
use Rattle.term_core_spec.specs.Term.{Term}
use Rattle.term_bank.specs.Nodes.{IsNode, Holds, build}
use Rattle.term_bank.specs.declared.node.TermNode.{TermNode}
use Rattle.c_graph_terms.specs.Tables.{placed}
use Rattle.c_graph_terms.proofs.Growing.{placed_fits}
use Rattle.c_graph.specs.Emitted.{AreImported}
use Rattle.c_graph.proofs.Imported.{import_fits, imported_more, none_imported}
use Rattle.c_graph.proofs.imports.import_into.Goals as goal

pub loop-i-init : goal.loop-i-init
loop-i-init c = none_imported c.args.graph.now c.args.bank.now c.args.ids.now.items c.requires

pub placed-node-requires : goal.placed-node-requires
placed-node-requires c =
    let below : c.loop-i.i < length c.args.bank.now = omega arith in
    subst (λ (l : List ℕ). IsNode (length l) c.node.result) (sym c.as_slice.ensures.value)
    (import_fits c.args.graph.now c.loop-i.graph c.args.bank.now c.loop-i.i c.loop-i.ids.items c.node.result c.loop-i.invariant below c.node.ensures.children)

pub add_term-requires : goal.add_term-requires
add_term-requires c =
    let ids = c.loop-i.ids.items in
    let node = c.node.result in
    let below : c.loop-i.i < length c.args.bank.now = omega arith in
    let is : c.placed-node.result ≡ placed ids node = c.placed-node.ensures ∙ ap (λ (l : List ℕ). placed l node) c.as_slice.ensures.value in
    let fits = import_fits c.args.graph.now c.loop-i.graph c.args.bank.now c.loop-i.i ids node c.loop-i.invariant below c.node.ensures.children in
    subst (IsNode (length c.loop-i.graph.trees)) (sym is) (placed_fits (length c.loop-i.graph.trees) ids node c.loop-i.invariant.within fits)

pub loop-i-preserved : goal.loop-i-preserved
loop-i-preserved c =
    let old = c.args.graph.now in
    let a = c.loop-i.graph in
    let b = c.add_term.new.self in
    let bank = c.args.bank.now in
    let i = c.loop-i.i in
    let ids = c.loop-i.ids.items in
    let node = c.node.result in
    let id = c.in-Ok-attempt.field-0 in
    let below : i < length bank = omega arith in
    let is : c.placed-node.result ≡ placed ids node = c.placed-node.ensures ∙ ap (λ (l : List ℕ). placed l node) c.as_slice.ensures.value in
    let holds : Holds b.trees id (build a.trees (placed ids node)) = subst (λ (n : TermNode). Holds b.trees id (build a.trees n)) is c.in-Ok-attempt.ensures.id in
    let more : AreImported old b (take (i + 1) bank) (ids ++ id ∷ []) =
    imported_more old a b bank i ids node id c.loop-i.invariant below c.node.ensures.children c.node.ensures.tree c.add_term.ensures.extends c.add_term.ensures.longer c.add_term.ensures.kept holds c.in-Ok-attempt.ensures.within in
    subst (AreImported old b (take (i + 1) bank)) (sym c.in_ok-push.ensures.items) more

pub returns : goal.returns
returns c =
    let past : length c.args.bank.now ≤ c.loop-i.i = omega arith in
    subst (λ (l : List Term). AreImported c.args.graph.now c.loop-i.graph l c.loop-i.ids.items) (take_all c.loop-i.i c.args.bank.now past) c.loop-i.invariant
