-- States whose terms are in a bank.
use Rattle.std.specs.Prelude.{◌≡◌, ℕ, ◌<◌, List, length, Option, Some, None, Result, IfOk}
use Rattle.term_core_spec.specs.declared.Variable.{Variable}
use Rattle.term_core_spec.specs.Term.{Term, open_term}
use Rattle.term_core_spec.specs.Substitution.{State}
use Rattle.term_bank.specs.Nodes.{tree_at, Holds}

abbrev pub tree_or : List Term → Option ℕ → Term → Term
tree_or trees (Some i) otherwise = tree_at trees i
tree_or trees None otherwise = otherwise

-- the terms of the variables; a variable without one is itself
abbrev pub state_of : List Term → (Variable → Option ℕ) → State
state_of trees ids = λ v. tree_or trees (ids v) (open_term v)

-- each id is below a number
abbrev pub AreBelow : ℕ → (Variable → Option ℕ) → Type 0
AreBelow n ids = (v : Variable) (i : ℕ) → ids v ≡ Some i → i < n

-- each id is in the bank
abbrev pub IsStateOf : List Term → (Variable → Option ℕ) → Type 0
IsStateOf trees ids = AreBelow (length trees) ids

-- where an index was found, it is that of the tree
abbrev pub IsAt : {E : Type 0} → List Term → Result ℕ E → Term → Type 0
IsAt trees found t = IfOk found (λ i. Holds trees i t)

-- where an index was found, it is in the bank
abbrev pub IsFound : {E : Type 0} → List Term → Result ℕ E → Type 0
IsFound trees found = IfOk found (λ i. i < length trees)
