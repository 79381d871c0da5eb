-- What was found in a bank, as the bank grows.
use Rattle.std.proofs.Common.{◌≡◌, ℕ, ◌≤◌, false, List, ◌++◌, length, Some, Option, sym, ap, ◌∙◌, subst, arith, append_assoc}
use Rattle.std.specs.Prelude.{Result, Ok}
use Rattle.std.proofs.lemmas.Result.{IfOk-weaker}
use Rattle.std.proofs.lemmas.Option.{get_or_from_slice_get}
use Rattle.term_core_spec.specs.declared.Atom.TheVariants as atom
use Rattle.term_core_spec.specs.declared.Variable.{Variable}
use Rattle.term_core_spec.specs.Term as tree
use Rattle.term_core_spec.specs.Term.{Term}
use Rattle.term_bank.specs.Nodes.{tree_at, Holds, Extends}
use Rattle.term_bank.proofs.Growth.{held, slice_get-front}
use Rattle.term_substitution.specs.States.{tree_or, state_of, IsStateOf, IsAt, IsFound}

-- a bank keeps its trees as it grows
kept : (old new : List Term) (i : ℕ) (t : Term) → Extends old new → Holds old i t → Holds new i t
kept old new i t e h = subst (λ l. Holds l i t) (sym e.1) (slice_get-front old e.0 i t h)

pub through : (old mid new : List Term) → Extends old mid → Extends mid new → Extends old new
through old mid new e f = (e.0 ++ f.0, f.1 ∙ ap (λ l. l ++ f.0) e.1 ∙ append_assoc old e.0 f.0)

pub later : {E : Type 0} → (old new : List Term) (found : Result ℕ E) (t : Term) → Extends old new → IsAt old found t → IsAt new found t
later old new found t e h = IfOk-weaker found _ _ (λ i at. kept old new i t e at) h

pub later_within : {E : Type 0} → (old new : List Term) (found : Result ℕ E) → length old ≤ length new → IsFound old found → IsFound new found
later_within old new found e h = IfOk-weaker found _ _ (λ i below. omega arith) h

-- the tree at an index that was found
pub tree_is : {E : Type 0} → (trees : List Term) (found : Result ℕ E) (i : ℕ) (t : Term) → found ≡ Ok i → IsAt trees found t → tree_at trees i ≡ t
tree_is trees found i t was h = get_or_from_slice_get trees i t (tree.Leaf (atom.Truth false)) (subst (λ r. IsAt trees r t) was h)

-- the term of a variable is in each later bank
pub put_variable : (base now : List Term) (ids : Variable → Option ℕ) (v : Variable) (i : ℕ) → Extends base now → IsStateOf base ids → ids v ≡ Some i → Holds now i (state_of base ids v)
put_variable base now ids v i e fits is = subst (λ o. Holds now i (tree_or base o (tree.Leaf (atom.Open v)))) (sym is) (kept base now i (tree_at base i) e (held base i (fits v i is)))
