-- Trees at indices of a bank that grows.
use Rattle.std.proofs.Common.{◌≡◌, ℕ, ◌+◌, ◌<◌, ◌≤◌, false, List, [], ◌∷◌, ◌++◌, length, map, Some, Result, refl, sym, ap, ◌∙◌, subst, arith, append_assoc, append-nil, length-append}
use Rattle.std.specs.Prelude.{IfOk}
use Rattle.std.proofs.lemmas.Option.{slice_get_within, get_or_from_slice_get, slice_get-get_or}
use Rattle.term_core_spec.specs.declared.Atom.TheVariants as atom
use Rattle.term_core_spec.specs.declared.Variable.{Variable}
use Rattle.term_core_spec.specs.Term as tree
use Rattle.term_core_spec.specs.Term.{Term}
use Rattle.term_bank.specs.declared.node.TermNode.{TermNode}
use Rattle.term_bank.specs.Nodes.{IsNode, tree_at, build, Holds, Extends}
use Rattle.term_bank.proofs.Growth.{tree_at-front, build-front}
use Rattle.mem_terms_spec.specs.Flat.{FlatLoad, agree}
use Rattle.mem_terms.specs.declared.ids.LoadIds.{LoadIds}
use Rattle.mem_terms.specs.Ids.{IsTreeAt, load_at, IsWithin, AreWithin}

-- ---- longer lists

pub extends_itself : (trees : List Term) → Extends trees trees
extends_itself trees = ([], sym (append-nil trees))

pub extends_then : (a b c : List Term) → Extends a b → Extends b c → Extends a c
extends_then a b c p q = (p.0 ++ q.0, q.1 ∙ ap (λ l. l ++ q.0) p.1 ∙ append_assoc a p.0 q.0)

pub longer : (a b : List Term) → Extends a b → length a ≤ length b
longer a b e = omega (arith, ap length e.1, length-append a e.0)

pub within_longer : (a b : List Term) (i : ℕ) → Extends a b → i < length a → i < length b
within_longer a b i e h = omega (arith, longer a b e)

pub kept_tree : (a b : List Term) (i : ℕ) → Extends a b → i < length a → tree_at b i ≡ tree_at a i
kept_tree a b i e h = ap (λ l. tree_at l i) e.1 ∙ tree_at-front a e.0 i h

pub kept_build : (a b : List Term) (node : TermNode) → Extends a b → IsNode (length a) node → build b node ≡ build a node
kept_build a b node e h = ap (λ l. build l node) e.1 ∙ build-front a e.0 node h

-- ---- trees at indices

pub holds_tree : (trees : List Term) (i : ℕ) (t : Term) → Holds trees i t → IsTreeAt trees i t
holds_tree trees i t h = record { within = slice_get_within trees i t h; tree = get_or_from_slice_get trees i t (tree.Leaf (atom.Truth false)) h }

pub tree_holds : (trees : List Term) (i : ℕ) (t : Term) → IsTreeAt trees i t → Holds trees i t
tree_holds trees i t h = slice_get-get_or trees i (tree.Leaf (atom.Truth false)) h.within ∙ ap Some h.tree

pub tree_as : (trees : List Term) (i : ℕ) (s t : Term) → s ≡ t → IsTreeAt trees i s → IsTreeAt trees i t
tree_as trees i s t e h = record { within = h.within; tree = h.tree ∙ e }

-- ---- loads by their indices

made : (v : Variable) (a b c d : Term) → a ≡ b → c ≡ d → (let f : FlatLoad = record { memory = v; address = a; byte = c } in f) ≡ record { memory = v; address = b; byte = d }
made v a b c d p q = cc

pub load_later : (a b : List Term) (l : LoadIds) → Extends a b → IsWithin (length a) l → load_at b l ≡ load_at a l
load_later a b l e h = made l.memory (tree_at b l.address) (tree_at a l.address) (tree_at b l.byte) (tree_at a l.byte) (kept_tree a b l.address e h.0) (kept_tree a b l.byte e h.1)

pub loads_later : (a b : List Term) (loads : List LoadIds) → Extends a b → AreWithin (length a) loads → map (load_at b) loads ≡ map (load_at a) loads
loads_later a b [] e h = refl
loads_later a b (l ∷ loads) e h = let first = load_later a b l e h.0 in let rest = loads_later a b loads e h.1 in cc

pub within_later : (a b : List Term) (l : LoadIds) → Extends a b → IsWithin (length a) l → IsWithin (length b) l
within_later a b l e h = (within_longer a b l.address e h.0, within_longer a b l.byte e h.1)

pub all_within_later : (a b : List Term) (loads : List LoadIds) → Extends a b → AreWithin (length a) loads → AreWithin (length b) loads
all_within_later a b [] e h = tt
all_within_later a b (l ∷ loads) e h = (within_later a b l e h.0, all_within_later a b loads e h.1)

-- two loads agree, by a test of their addresses and one of their bytes
pub agreed : {E : Type 0} (old first second new : List Term) (x y : LoadIds) (a b : ℕ) (r : Result ℕ E) → Extends old first → Extends first second
    → IsWithin (length old) x → IsWithin (length old) y → IsTreeAt first a (tree.equal (tree_at old x.address) (tree_at old y.address))
    → IsTreeAt second b (tree.equal (tree_at first x.byte) (tree_at first y.byte))
    → IfOk r (λ i. IsTreeAt new i (tree.or_term (tree.not_term (tree_at second a)) (tree_at second b)))
    → IfOk r (λ i. IsTreeAt new i (agree (load_at old x) (load_at old y)))
agreed old first second new x y a b r e1 e2 x_within y_within at_a at_b made =
    let addresses : tree_at second a ≡ tree.equal (tree_at old x.address) (tree_at old y.address) = kept_tree first second a e2 at_a.within ∙ at_a.tree in
    let bytes : tree_at second b ≡ tree.equal (tree_at first x.byte) (tree_at first y.byte) = at_b.tree in
    let x_byte : tree_at first x.byte ≡ tree_at old x.byte = kept_tree old first x.byte e1 x_within.1 in
    let y_byte : tree_at first y.byte ≡ tree_at old y.byte = kept_tree old first y.byte e1 y_within.1 in
    let same : tree.or_term (tree.not_term (tree_at second a)) (tree_at second b) ≡ agree (load_at old x) (load_at old y) = cc in
    subst (λ t. IfOk r (λ i. IsTreeAt new i t)) same made
