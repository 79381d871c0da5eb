-- What is written over a bank, added to a graph.
use Rattle.std.proofs.Common.{◌≡◌, ◌∙◌, ℕ, ◌+◌, ◌<◌, List, [], ◌∷◌, ◌++◌, length, map, refl, sym, ap, ap₂, subst, arith}
use Rattle.std.proofs.lemmas.List.{length-map}
use Rattle.term_core_spec.specs.Term.{Term}
use Rattle.term_bank.specs.Nodes.{tree_at}
use Rattle.graph_core_spec.specs.declared.Next.{Next}
use Rattle.graph_core_spec.specs.declared.Next.TheVariants.{At}
use Rattle.graph_core_spec.specs.Graph as graph
use Rattle.graph_core_spec.specs.Graph.{Node, with_nodes}
use Rattle.graph_core.specs.declared.graph.Graph.{Graph}
use Rattle.graph_core.specs.declared.shared.SharedNode.{SharedNode}
use Rattle.graph_core.specs.Shared.{shared_node_of, IsSharedNode}
use Rattle.graph_core.specs.Graphs.{graph_of}
use Rattle.c_graph_spec.specs.Layout.{chain, guarded}
use Rattle.c_graph_terms.specs.Tables.{AreWithin, id_at}
use Rattle.c_graph.specs.Emitted.{AreImported}
use Rattle.c_graph.proofs.WithNodes.{added_then, added_to}
use Rattle.c_graph.proofs.Ids.{mapped_trees}
use Rattle.c_graph.proofs.Imported.{imported_many}

-- the trees of ids of ids
pub slice_trees : (trees : List Term) (ids given slice : List ℕ) → AreWithin (length ids) given → slice ≡ map (id_at ids) given → map (tree_at trees) slice ≡ map (tree_at (map (tree_at trees) ids)) given
slice_trees trees ids given slice w e = ap (map (tree_at trees)) e ∙ mapped_trees trees ids given w

slice_long : (trees : List Term) (ids given slice : List ℕ) → slice ≡ map (id_at ids) given → length slice ≡ length (map (tree_at (map (tree_at trees) ids)) given)
slice_long trees ids given slice e = ap length e ∙ length-map given (id_at ids) ∙ sym (length-map given (tree_at (map (tree_at trees) ids)))

pub emitted_under : (a b c : Graph) (ids given slice : List ℕ) (node : SharedNode) (at end : ℕ) → AreWithin (length ids) given → slice ≡ map (id_at ids) given → end ≡ at + length slice
    → graph_of b ≡ with_nodes (graph_of a) (chain (map (tree_at a.trees) slice) at (At end)) → b.trees ≡ a.trees
    → graph_of c ≡ with_nodes (graph_of b) (shared_node_of (map (tree_at b.trees) ids) node ∷ [])
    → graph_of c ≡ with_nodes (graph_of a) (guarded (map (tree_at (map (tree_at a.trees) ids)) given) at (shared_node_of (map (tree_at a.trees) ids) node))
emitted_under a b c ids given slice node at end w e place tests same last =
    let all : List Term = map (tree_at (map (tree_at a.trees) ids)) given in
    let there : end ≡ at + length all = place ∙ ap (λ (n : ℕ). at + n) (slice_long a.trees ids given slice e) in
    let first : graph_of b ≡ with_nodes (graph_of a) (chain all at (At (at + length all))) =
    tests ∙ ap₂ (λ (l : List Term) (n : ℕ). with_nodes (graph_of a) (chain l at (At n))) (slice_trees a.trees ids given slice w e) there in
    let second : graph_of c ≡ with_nodes (graph_of b) (shared_node_of (map (tree_at a.trees) ids) node ∷ []) =
    last ∙ ap (λ (l : List Term). with_nodes (graph_of b) (shared_node_of (map (tree_at l) ids) node ∷ [])) same in
    added_then (graph_of a) (graph_of b) (graph_of c) (chain all at (At (at + length all))) (shared_node_of (map (tree_at a.trees) ids) node ∷ []) first second

-- the same over the bank whose terms these are
pub emitted_over : (a b c : Graph) (bank : List Term) (ids slice given : List ℕ) (node : SharedNode) (at : ℕ) → AreImported a b bank ids → slice ≡ ids
    → graph_of c ≡ with_nodes (graph_of b) (guarded (map (tree_at (map (tree_at b.trees) slice)) given) at (shared_node_of (map (tree_at b.trees) slice) node))
    → graph_of c ≡ with_nodes (graph_of a) (guarded (map (tree_at bank) given) at (shared_node_of bank node))
emitted_over a b c bank ids slice given node at h e p =
    added_to (graph_of a) (graph_of b) (graph_of c) (guarded (map (tree_at bank) given) at (shared_node_of bank node)) h.same
    (p ∙ ap (λ (l : List Term). with_nodes (graph_of b) (guarded (map (tree_at l) given) at (shared_node_of l node))) (ap (map (tree_at b.trees)) e ∙ h.are))

pub tests_over : (a b c : Graph) (bank : List Term) (ids other given slice : List ℕ) (at : ℕ) (to : Next) → AreImported a b bank ids → other ≡ ids → AreWithin (length bank) given → slice ≡ map (id_at other) given
    → graph_of c ≡ with_nodes (graph_of b) (chain (map (tree_at b.trees) slice) at to) → graph_of c ≡ with_nodes (graph_of a) (chain (map (tree_at bank) given) at to)
tests_over a b c bank ids other given slice at to h o w e p =
    let within : AreWithin (length ids) given = subst (λ n. AreWithin n given) (sym (imported_many a b bank ids h)) w in
    let trees : map (tree_at b.trees) slice ≡ map (tree_at bank) given =
    slice_trees b.trees ids given slice within (e ∙ ap (λ l. map (id_at l) given) o) ∙ ap (λ l. map (tree_at l) given) h.are in
    added_to (graph_of a) (graph_of b) (graph_of c) (chain (map (tree_at bank) given) at to) h.same
    (p ∙ ap (λ (l : List Term). with_nodes (graph_of b) (chain l at to)) trees)

-- what is within a bank is within the ids of its terms
pub within_ids : (a b : Graph) (bank : List Term) (ids slice given : List ℕ) → AreImported a b bank ids → slice ≡ ids → AreWithin (length bank) given → AreWithin (length slice) given
within_ids a b bank ids slice given h e w = subst (λ n. AreWithin n given) (sym (ap length e ∙ imported_many a b bank ids h)) w

pub node_within_ids : (a b : Graph) (bank : List Term) (ids slice : List ℕ) (node : SharedNode) → AreImported a b bank ids → slice ≡ ids → IsSharedNode (length bank) node → IsSharedNode (length slice) node
node_within_ids a b bank ids slice node h e w = subst (λ n. IsSharedNode n node) (sym (ap length e ∙ imported_many a b bank ids h)) w
