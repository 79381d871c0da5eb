-- Lists that have the variables of terms.
use Rattle.std.specs.Prelude.{◌≡◌, ℕ, ◌<◌, true, List, length, slice_get, Some}
use Rattle.term_core_spec.specs.declared.Variable.{Variable}
use Rattle.term_core_spec.specs.Term.{Term, Occurs}
use Rattle.term_bank.specs.Nodes.{tree_at}
use Rattle.path_cond.specs.Bound.{has}

-- the list has each variable that occurs in the term
abbrev pub Lists : List Variable → Term → Type 0
Lists variables t = (v : Variable) → Occurs v t → has variables v ≡ true

-- in one of the lines
abbrev pub ListsLines : List Variable → List Term → Type 0
ListsLines variables lines = (i : ℕ) (line : Term) → slice_get lines i ≡ Some line → Lists variables line

-- in a term of the bank
abbrev pub ListsBank : List Variable → (trees : List Term) → Type 0
ListsBank variables trees = (id : ℕ) → id < length trees → Lists variables (tree_at trees id)

-- in one of the lines, in a last one, or in a term of the bank
pub record AreListedIn (variables : List Variable) (lines : List Term) (last : Term) (trees : List Term) : Type 0 where
  pub of_lines : ListsLines variables lines
  pub of_last : Lists variables last
  pub of_bank : ListsBank variables trees
