-- The terms of a bank, added to a graph's one after the other.
use Rattle.std.proofs.Common.{◌≡◌, ◌∙◌, ℕ, false, ◌+◌, ◌<◌, ◌≤◌, List, [], ◌∷◌, ◌++◌, length, map, take, drop, refl, sym, ap, ap₂, subst, arith}
use Rattle.std.specs.Prelude.{Vec}
use Rattle.std.specs.declared.alloc.Global.{Global}
use Rattle.std.proofs.lemmas.List.{map-append, take_more, take-append-drop, length-take-le, length-map}
use Rattle.std.proofs.lemmas.Option.{get_or_from_slice_get}
use Rattle.term_core_spec.specs.declared.Atom.TheVariants as atom
use Rattle.term_core_spec.specs.Term as tree
use Rattle.term_core_spec.specs.Term.{Term}
use Rattle.term_bank.specs.Nodes.{IsNode, Holds, Extends, tree_at, build}
use Rattle.term_bank.specs.declared.node.TermNode.{TermNode}
use Rattle.term_bank.proofs.Growth.{build-front}
use Rattle.graph_core.specs.declared.graph.Graph.{Graph}
use Rattle.graph_core.specs.Graphs.{graph_of}
use Rattle.c_graph_terms.specs.Tables.{AreWithin, placed}
use Rattle.c_graph_terms.specs.Built.{IsGrown}
use Rattle.c_graph_terms.proofs.Growing.{all_later, trees_kept, with_last}
use Rattle.graph_core_spec.specs.declared.Next.{Next}
use Rattle.graph_core_spec.specs.Graph as graph
use Rattle.graph_core.specs.declared.shared.SharedBinding.{SharedBinding}
use Rattle.graph_core.specs.declared.shared.SharedNode.TheVariants as shared
use Rattle.graph_core.specs.Shared.{shared_binding_of, shared_node_of, AreSharedBindings}
use Rattle.c_graph.specs.Emitted.{AreImported, binding_under}
use Rattle.c_graph_terms.proofs.Growing.{placed_tree}
use Rattle.c_graph.proofs.Ids.{moved_bindings, moved_within}

-- as many ids as terms
pub imported_many : (old new : Graph) (trees : List Term) (ids : List ℕ) → AreImported old new trees ids → length ids ≡ length trees
imported_many old new trees ids h = sym (length-map ids (tree_at new.trees)) ∙ ap length h.are

-- a node over the first terms builds the same over all
front_tree : (bank : List Term) (i : ℕ) (node : TermNode) → i ≤ length bank → IsNode i node → build (take i bank) node ≡ build bank node
front_tree bank i node within fits =
    let long : length (take i bank) ≡ i = length-take-le i bank within in
    sym (build-front (take i bank) (drop i bank) node (subst (λ n. IsNode n node) (sym long) fits)) ∙ ap (λ l. build l node) (take-append-drop i bank)

pub none_imported : (g : Graph) (bank : List Term) (ids : List ℕ) → ids ≡ [] → AreImported g g (take 0 bank) ids
none_imported g bank ids e =
    subst (λ l. AreImported g g (take 0 bank) l) (sym e) (record { within = tt; are = refl; same = refl })

-- the arguments of a node of the bank have ids
pub import_fits : (old a : Graph) (bank : List Term) (i : ℕ) (ids : List ℕ) (node : TermNode) → AreImported old a (take i bank) ids → i < length bank → IsNode i node → IsNode (length ids) node
import_fits old a bank i ids node h below fits =
    subst (λ n. IsNode n node) (sym (imported_many old a (take i bank) ids h ∙ length-take-le i bank (omega arith))) fits

pub imported_more : (old a b : Graph) (bank : List Term) (i : ℕ) (ids : List ℕ) (node : TermNode) (id : ℕ) → AreImported old a (take i bank) ids → i < length bank
    → IsNode i node → Holds bank i (build bank node) → Extends a.trees b.trees → length a.trees ≤ length b.trees → graph_of b ≡ graph_of a
    → Holds b.trees id (build a.trees (placed ids node)) → id < length b.trees → AreImported old b (take (i + 1) bank) (ids ++ id ∷ [])
imported_more old a b bank i ids node id h below fits there extends longer same holds within =
    let no : Term = tree.Leaf (atom.Truth false) in
    let grown : IsGrown a.trees b.trees = record { extends = extends; longer = longer } in
    let inside : IsNode (length ids) node = import_fits old a bank i ids node h below fits in
    let here : tree_at b.trees id ≡ tree_at bank i =
    get_or_from_slice_get b.trees id (build a.trees (placed ids node)) no holds ∙ placed_tree a.trees ids node inside ∙ ap (λ l. build l node) h.are
    ∙ front_tree bank i node (omega arith) fits ∙ sym (get_or_from_slice_get bank i (build bank node) no there) in
    record {
      within = with_last (length b.trees) ids id (all_later a.trees b.trees ids grown h.within) within;
      are = map-append (tree_at b.trees) ids (id ∷ [])
          ∙ ap₂ (λ (ts : List Term) (t : Term). ts ++ t ∷ []) (trees_kept a.trees b.trees ids grown h.within ∙ h.are) here ∙ sym (take_more bank i no below);
      same = same ∙ h.same;
    }

-- ---- nodes with ids in place of numbers

pub mapped_basic : (trees : List Term) (ids : List ℕ) (given made : Vec SharedBinding Global) (next : Next) → AreSharedBindings (length ids) given.items → made.items ≡ map (binding_under ids) given.items
    → shared_node_of trees (shared.Basic made next) ≡ shared_node_of (map (tree_at trees) ids) (shared.Basic given next)
mapped_basic trees ids given made next within e =
    ap (λ (l : List graph.Binding). graph.Basic l next) (ap (map (shared_binding_of trees)) e ∙ moved_bindings trees ids given.items within)

pub mapped_call : (trees : List Term) (ids : List ℕ) (callee landing : ℕ) (ins outs new_ins new_outs : Vec SharedBinding Global) → AreSharedBindings (length ids) ins.items → AreSharedBindings (length ids) outs.items
    → new_ins.items ≡ map (binding_under ids) ins.items → new_outs.items ≡ map (binding_under ids) outs.items
    → shared_node_of trees (shared.Call callee new_ins new_outs landing) ≡ shared_node_of (map (tree_at trees) ids) (shared.Call callee ins outs landing)
mapped_call trees ids callee landing ins outs new_ins new_outs i o e f =
    ap₂ (λ (x y : List graph.Binding). graph.Call callee x y landing) (ap (map (shared_binding_of trees)) e ∙ moved_bindings trees ids ins.items i)
    (ap (map (shared_binding_of trees)) f ∙ moved_bindings trees ids outs.items o)

pub bindings_fit : (n : ℕ) (ids : List ℕ) (given made : List SharedBinding) → AreWithin n ids → AreSharedBindings (length ids) given → made ≡ map (binding_under ids) given → AreSharedBindings n made
bindings_fit n ids given made w h e = subst (AreSharedBindings n) (sym e) (moved_within n ids given w h)
