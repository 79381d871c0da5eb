-- Trees of a bank that grows.
use Rattle.std.proofs.Common.{◌≡◌, ◌∙◌, ℕ, ◌<◌, ◌≤◌, ◌==◌, false, List, [], ◌++◌, inl, inr, length, Some, sym, ap, arith, append_assoc, append-nil, length-append}
use Rattle.std.proofs.lemmas.Bool.{cases_eq, eq-eqb, ne_eqb, false_from_ne_true}
use Rattle.std.proofs.lemmas.Option.{slice_get_within, get_or_from_slice_get}
use Rattle.term_core_spec.specs.declared.Atom.TheVariants as atom
use Rattle.term_core_spec.specs.Term as tree
use Rattle.term_core_spec.specs.Term.{Term}
use Rattle.term_core_spec.specs.Same.{same_term}
use Rattle.term_core_spec.proofs.Same.{same_is, same_itself}
use Rattle.term_bank.specs.Nodes.{tree_at, Holds, Extends, AreDistinct}
use Rattle.term_bank.proofs.Growth.{held, tree_at-front}

pub extends_itself : (trees : List Term) → Extends trees trees
extends_itself trees = ([], sym (append-nil trees))

pub extends_then : (a b c : List Term) → Extends a b → Extends b c → Extends a c
extends_then a b c p q = (p.0 ++ q.0, q.1 ∙ ap (λ l. l ++ q.0) p.1 ∙ append_assoc a p.0 q.0)

pub longer : (a b : List Term) → Extends a b → length a ≤ length b
longer a b e = omega (arith, ap length e.1, length-append a e.0)

pub within_longer : (a b : List Term) (i : ℕ) → Extends a b → i < length a → i < length b
within_longer a b i e h = let more = longer a b e in omega arith

pub kept_tree : (a b : List Term) (i : ℕ) → Extends a b → i < length a → tree_at b i ≡ tree_at a i
kept_tree a b i e h = ap (λ l. tree_at l i) e.1 ∙ tree_at-front a e.0 i h

pub within : (trees : List Term) (i : ℕ) (t : Term) → Holds trees i t → i < length trees
within trees i t h = slice_get_within trees i t h

pub tree_is : (trees : List Term) (i : ℕ) (t : Term) → Holds trees i t → tree_at trees i ≡ t
tree_is trees i t h = get_or_from_slice_get trees i t (tree.Leaf (atom.Truth false)) h

-- equal ids and equal trees are the same
pub same_ids : (trees : List Term) → AreDistinct trees → (i j : ℕ) → i < length trees → j < length trees → same_term (tree_at trees i) (tree_at trees j) ≡ (j == i)
same_ids trees distinct i j less_i less_j = elim (cases_eq j i) [
  | inl same ↦ ap (λ (k : ℕ). same_term (tree_at trees i) (tree_at trees k)) same ∙ same_itself (tree_at trees i) ∙ sym (eq-eqb j i same)
  | inr apart ↦
      false_from_ne_true (same_term (tree_at trees i) (tree_at trees j))
      (λ h.
      let trees_same : tree_at trees i ≡ tree_at trees j = same_is (tree_at trees i) (tree_at trees j) h in
      let one : i ≡ j = distinct i j (tree_at trees j) (held trees i less_i ∙ ap Some trees_same) (held trees j less_j) in
      apart (sym one))
      ∙ sym (ne_eqb j i apart)
]
