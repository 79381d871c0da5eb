-- Trees in a bank that grows.
use Rattle.std.proofs.Common.{◌≡◌, ℕ, false, ◌<◌, ◌≤◌, List, [], ◌++◌, length, Some, sym, ap, ◌∙◌, arith, append_assoc, length-append, append-nil}
use Rattle.std.proofs.Math.ListN.{get_or-append}
use Rattle.std.proofs.lemmas.Option.{slice_get-get_or, slice_get_within, get_or_from_slice_get}
use Rattle.term_core_spec.specs.declared.Atom.TheVariants as atom
use Rattle.term_core_spec.specs.Term as tree
use Rattle.term_core_spec.specs.Term.{Term}
use Rattle.term_bank.specs.Nodes.{tree_at, Holds, Extends}

pub extends_same : (trees : List Term) → Extends trees trees
extends_same trees = ([], sym (append-nil trees))

pub extends_through : (a b c : List Term) → Extends a b → Extends b c → Extends a c
extends_through a b c f g = (f.0 ++ g.0, g.1 ∙ ap (λ t. t ++ g.0) f.1 ∙ append_assoc a f.0 g.0)

pub longer : (old new : List Term) → Extends old new → length old ≤ length new
longer old new e = omega (arith, ap length e.1, length-append old e.0)

pub within : (trees : List Term) (i : ℕ) (t : Term) → Holds trees i t → i < length trees
within trees i t h = slice_get_within trees i t h

pub read : (trees : List Term) (i : ℕ) (t : Term) → Holds trees i t → tree_at trees i ≡ t
read trees i t h = get_or_from_slice_get trees i t (tree.Leaf (atom.Truth false)) h

-- a tree keeps its index
pub stays : (old new : List Term) (i : ℕ) → Extends old new → i < length old → tree_at new i ≡ tree_at old i
stays old new i e below = ap (λ trees. tree_at trees i) e.1 ∙ get_or-append old e.0 (tree.Leaf (atom.Truth false)) i below

pub kept : (old new : List Term) (i : ℕ) (t : Term) → Extends old new → Holds old i t → Holds new i t
kept old new i t e h =
    let below : i < length old = within old i t h in
    let longer : length old ≤ length new = longer old new e in
    slice_get-get_or new i (tree.Leaf (atom.Truth false)) (omega arith) ∙ ap Some (stays old new i e below ∙ read old i t h)
