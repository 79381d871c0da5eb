use Rattle.std.proofs.Common.{◌≡◌, ◌∙◌, ℕ, ◌+◌, ◌<◌, List, ◌∷◌, ◌++◌, [], false, length, map, get_or, drop, sym, ap, subst, arith, length-append}
use Rattle.std.specs.Prelude.{IsTrue}
use Rattle.term_core_spec.specs.declared.Atom.TheVariants.{Truth}
use Rattle.term_bank.specs.declared.node.TermNode.{TermNode}
use Rattle.term_bank.specs.declared.node.TermNode.TheVariants.{Leaf}
use Rattle.term_bank.specs.Nodes.{IsNode, tree_at, build}
use Rattle.term_bank.specs.Trees.{grown}
use Rattle.c_graph_terms.specs.Tables.{AreWithin, are_nodes, placed}
use Rattle.c_graph_terms.specs.Built.{IsBuilt}
use Rattle.c_graph_terms.proofs.Banks.{grown_then, added}
use Rattle.c_graph_terms.proofs.Growing.{next_node, rest_fit, placed_fits, one_more, fits_more, with_last, all_later}
use Rattle.c_graph_terms.proofs.table.extend.Goals as goal

pub add-requires : goal.add-requires
add-requires c =
    let ids = c.loop-node.ids.items in
    let nodes = c.args.nodes.now in
    let i = c.loop-node.node-index in
    let below : i < length nodes = omega arith in
    let node : TermNode = get_or nodes i (Leaf (Truth false)) in
    let fits = rest_fit (length ids) (drop i nodes) (drop (i + 1) nodes) node (next_node nodes i below) c.loop-node.invariant.fit in
    let is : c.placed.result ≡ placed ids node = c.placed.ensures ∙ ap (λ (l : List ℕ). placed l node) c.as_slice.ensures.value in
    subst (IsNode (length c.loop-node.bank)) (sym is) (placed_fits (length c.loop-node.bank) ids node c.loop-node.invariant.within fits.0)

pub loop-node-preserved : goal.loop-node-preserved
loop-node-preserved c =
    let old = c.loop-node.bank in
    let new = c.add.new.self in
    let ids = c.loop-node.ids.items in
    let nodes = c.args.nodes.now in
    let i = c.loop-node.node-index in
    let id = c.in-Ok-attempt.field-0 in
    let below : i < length nodes = omega arith in
    let node : TermNode = get_or nodes i (Leaf (Truth false)) in
    let here : drop i nodes ≡ node ∷ drop (i + 1) nodes = next_node nodes i below in
    let is : c.placed.result ≡ placed ids node = c.placed.ensures ∙ ap (λ (l : List ℕ). placed l node) c.as_slice.ensures.value in
    let items : c.push.new.self.items ≡ ids ++ id ∷ [] = c.in_ok-push.ensures.items in
    let built : IsBuilt old new id (build old (placed ids node)) =
    subst (λ (n : TermNode). IsBuilt old new id (build old n)) is (added old new id (build old c.placed.result) c.add.ensures.extends c.in-Ok-attempt.ensures.within c.in-Ok-attempt.ensures.id) in
    let more = one_more old new ids (drop i nodes) (drop (i + 1) nodes) node id here c.loop-node.invariant.within c.loop-node.invariant.fit built.is_grown built.tree in
    let fit : IsTrue (are_nodes (length (ids ++ id ∷ [])) (drop (i + 1) nodes)) = fits_more ids (drop i nodes) (drop (i + 1) nodes) node id here c.loop-node.invariant.fit in
    let count : length (ids ++ id ∷ []) ≡ length c.args.ids.now.items + (i + 1) = length-append ids (id ∷ []) ∙ omega (arith, c.loop-node.invariant.count) in
    record {
      is_grown = grown_then c.args.bank.now old new c.loop-node.invariant.is_grown built.is_grown;
      within = subst (λ (l : List ℕ). AreWithin (length new) l) (sym items) (with_last (length new) ids id (all_later old new ids built.is_grown c.loop-node.invariant.within) built.within);
      count = ap length items ∙ count;
      fit = subst (λ (l : List ℕ). IsTrue (are_nodes (length l) (drop (i + 1) nodes))) (sym items) fit;
      trees = ap (λ (l : List ℕ). grown (map (tree_at new) l) (drop (i + 1) nodes)) items ∙ more ∙ c.loop-node.invariant.trees;
    }
