-- Lists by what is taken of them, and ids in lists.
use Rattle.std.proofs.Common.{◌≡◌, ◌∙◌, ℕ, zero, suc, ◌+◌, ◌<◌, List, [], ◌∷◌, ◌++◌, length, map, get_or, take, drop, refl, sym, ap, ap₂, arith, drop-cons}
use Rattle.std.proofs.lemmas.List.{map-append, take_more}
use Rattle.std.proofs.lemmas.List.Elements.{All-map}
use Rattle.term_core_spec.specs.Term.{Term}
use Rattle.term_bank.specs.Nodes.{tree_at}
use Rattle.graph_core_spec.specs.Graph as graph
use Rattle.graph_core.specs.declared.shared.SharedBinding.{SharedBinding}
use Rattle.graph_core.specs.Shared.{shared_binding_of, AreSharedBindings}
use Rattle.c_graph_terms.specs.Tables.{AreWithin, id_at}
use Rattle.c_graph_terms.proofs.Growing.{at_id, within_at}
use Rattle.c_graph.specs.Emitted.{binding_under}

pub any_default : {X : Type 0} (xs : List X) (i : ℕ) (d e : X) → i < length xs → get_or xs i d ≡ get_or xs i e
any_default [] i d e h = absurd (omega arith)
any_default (x ∷ xs) zero d e h = refl
any_default (x ∷ xs) (suc i) d e h = any_default xs i d e (omega arith)

-- one element more is taken
pub map_more : {X Y : Type 0} (f : X → Y) (xs : List X) (i : ℕ) (x : X) → i < length xs → x ≡ get_or xs i x → map f (take (i + 1) xs) ≡ map f (take i xs) ++ f x ∷ []
map_more f xs i x below is =
    ap (map f) (take_more xs i x below) ∙ map-append f (take i xs) (get_or xs i x ∷ []) ∙ ap (λ y. map f (take i xs) ++ f y ∷ []) (sym is)

-- from a place on: that element first
pub item_at : {X : Type 0} (xs : List X) (i : ℕ) (d : X) → i < length xs → drop i xs ≡ get_or xs i d ∷ drop (i + 1) xs
item_at xs i d below = let next : i + 1 ≡ suc i = omega arith in drop-cons xs i d below ∙ ap (λ n. get_or xs i d ∷ drop n xs) (sym next)

-- ---- ids of ids

pub mapped_trees : (trees : List Term) (ids given : List ℕ) → AreWithin (length ids) given → map (tree_at trees) (map (id_at ids) given) ≡ map (tree_at (map (tree_at trees) ids)) given
mapped_trees trees ids [] h = refl
mapped_trees trees ids (i ∷ given) h = ap₂ (λ (t : Term) (ts : List Term). t ∷ ts) (at_id trees ids i h.0) (mapped_trees trees ids given h.1)

pub mapped_within : (n : ℕ) (ids given : List ℕ) → AreWithin n ids → AreWithin (length ids) given → AreWithin n (map (id_at ids) given)
mapped_within n ids [] w h = tt
mapped_within n ids (i ∷ given) w h = (within_at n ids i w h.0, mapped_within n ids given w h.1)

-- ---- bindings of ids

moved : (trees : List Term) (ids : List ℕ) (b : SharedBinding) → b.term < length ids → shared_binding_of trees (binding_under ids b) ≡ shared_binding_of (map (tree_at trees) ids) b
moved trees ids b below = ap (λ (t : Term). let r : graph.Binding = record { variable = b.variable; term = t } in r) (at_id trees ids b.term below)

pub moved_bindings : (trees : List Term) (ids : List ℕ) (bs : List SharedBinding) → AreSharedBindings (length ids) bs
    → map (shared_binding_of trees) (map (binding_under ids) bs) ≡ map (shared_binding_of (map (tree_at trees) ids)) bs
moved_bindings trees ids [] all = refl
moved_bindings trees ids (b ∷ bs) all =
    ap₂ (λ (x : graph.Binding) (xs : List graph.Binding). x ∷ xs) (moved trees ids b (all zero b (omega arith))) (moved_bindings trees ids bs (λ k d less. all (suc k) d (omega arith)))

pub moved_within : (n : ℕ) (ids : List ℕ) (bs : List SharedBinding) → AreWithin n ids → AreSharedBindings (length ids) bs → AreSharedBindings n (map (binding_under ids) bs)
moved_within n ids bs w h = All-map (λ (b : SharedBinding). b.term < n) (binding_under ids) bs (λ k d less. within_at n ids (get_or bs k d).term w (h k d less))

-- an element by an index that is the same, and another default
pub index_is : {X : Type 0} (xs : List X) (m n : ℕ) (x d : X) → x ≡ get_or xs m x → m ≡ n → n < length xs → x ≡ get_or xs n d
index_is xs m n x d is same below = is ∙ ap (λ (k : ℕ). get_or xs k x) same ∙ any_default xs n x d below
