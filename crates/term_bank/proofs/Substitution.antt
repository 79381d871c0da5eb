-- Trees whose variables are replaced, built over a bank that grows.
use Rattle.std.proofs.Common.{◌≡◌, ℕ, ◌<◌, false, List, ◌++◌, length, Option, Some, None, refl, sym, ap, ◌∙◌, subst, append_assoc}
use Rattle.std.specs.Prelude.{slice_get}
use Rattle.std.proofs.lemmas.Option.{get_or_from_slice_get}
use Rattle.term_core_spec.specs.declared.Atom.TheVariants as atom
use Rattle.term_core_spec.specs.declared.UnaryOperator.{UnaryOperator}
use Rattle.term_core_spec.specs.declared.BinaryOperator.{BinaryOperator}
use Rattle.term_core_spec.specs.declared.TernaryOperator.{TernaryOperator}
use Rattle.term_core_spec.specs.declared.QuaternaryOperator.{QuaternaryOperator}
use Rattle.term_core_spec.specs.Term as tree
use Rattle.term_core_spec.specs.Term.{Term}
use Rattle.term_bank.specs.declared.node.TermNode.{TermNode}
use Rattle.term_bank.specs.declared.node.TermNode.TheVariants.{Leaf, Unary, Binary, Ternary, Quaternary, Octonary}
use Rattle.term_bank.specs.Nodes.{tree_at, build, Holds, Extends}
use Rattle.term_bank.proofs.Growth.{held, slice_get-front}

-- a bank keeps its trees as it grows
pub kept : (old new : List Term) (i : ℕ) (t : Term) → Extends old new → Holds old i t → Holds new i t
kept old new i t e h = subst (λ l. Holds l i t) (sym e.1) (slice_get-front old e.0 i t h)

pub extends_through : (old mid new : List Term) → Extends old mid → Extends mid new → Extends old new
extends_through old mid new e f = (e.0 ++ f.0, f.1 ∙ ap (λ l. l ++ f.0) e.1 ∙ append_assoc old e.0 f.0)

-- a term of an older bank
pub held_before : (base now : List Term) (i : ℕ) → Extends base now → i < length base → Holds now i (tree_at base i)
held_before base now i e below = kept base now i (tree_at base i) e (held base i below)

pub is_at : (trees : List Term) (i : ℕ) (t : Term) → Holds trees i t → tree_at trees i ≡ t
is_at trees i t h = get_or_from_slice_get trees i t (tree.Leaf (atom.Truth false)) h
