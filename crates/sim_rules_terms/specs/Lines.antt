-- Which of some terms are lines.
use Rattle.std.specs.Prelude.{◌≡◌, ℕ, List, slice_get, Option, Some, None}
use Rattle.term_core_spec.specs.Term.{Term}
use Rattle.proof_tree_spec.specs.Scope.{Setting, IsLine}
use Rattle.sim_rules_spec.specs.Obligations.{IsNoLine}

abbrev pub AreLines : Setting → (path : List ℕ) → List Term → Type 0
AreLines s path lines = (i : ℕ) (line : Term) → slice_get lines i ≡ Some line → IsLine s path line

-- the index of the first that is none
abbrev pub IsFirstBad : Setting → (path : List ℕ) → List Term → Option ℕ → Type 0
IsFirstBad s path lines (Some index) = IsNoLine s path lines index
IsFirstBad s path lines None = AreLines s path lines
