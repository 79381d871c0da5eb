-- The terms of the start, in a map that has what the start has.
use Rattle.std.proofs.Common.{◌≡◌, ◌∙◌, ℕ, List, length, Option, sym, ap}
use Rattle.term_core_spec.specs.declared.Variable.{Variable}
use Rattle.term_core_spec.specs.Term.{Term, open_term}
use Rattle.term_bank.specs.Nodes.{Extends}
use Rattle.term_substitution.specs.States.{tree_or, state_of, AreBelow}
use Rattle.path_cond.specs.States.{HasState, IsStart}
use Rattle.path_cond.proofs.Current.{same_terms, below_later}

module _ (before now : List Term) (e : Extends before now) where
  pub below_copied : (start copy : Variable → Option ℕ) → copy ≡ start → AreBelow (length before) start → AreBelow (length now) copy
  below_copied start copy same below v i is =
      below_later before now e start below v i (sym (ap (λ (f : Variable → Option ℕ). f v) same) ∙ is)

  pub is_start : (variables : List Variable) (start copy : Variable → Option ℕ) → copy ≡ start → AreBelow (length before) start
      → (ids : ℕ → Option ℕ) → HasState now variables (state_of before start) ids (state_of before start)
      → IsStart now variables (state_of before start) ids copy
  is_start variables start copy same below ids first = record {
    first = first;
    outside = λ v out. ap (λ (f : Variable → Option ℕ). tree_or now (f v) (open_term v)) same ∙ same_terms before now e start below v;
  }
