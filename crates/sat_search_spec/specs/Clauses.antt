-- Literals of clauses, and the status of a clause under the literals that are true.
use Rattle.std.specs.Prelude.{◌≡◌, ◌⊎◌, ℕ, ◌<◌, ◌-◌, true, List, Some, slice_get}
use Rattle.clause_check_spec.specs.declared.Literal.{Literal}
use Rattle.clause_check_spec.specs.Clause.{Clause}
use Rattle.clause_check_spec.specs.Step.{is_true, finding, Holds, Several}

-- the literal is one of these
abbrev pub Has : List Literal → Literal → Type 0
Has literals literal = is_true literals literal ≡ true

-- the clause of a number, counted from 1
pub record Numbered (clauses : List Clause) (number : ℕ) (clause : Clause) : Type 0 where
  pub positive : 0 < number
  pub there : slice_get clauses (number - 1) ≡ Some clause

-- no variable has two values
abbrev pub AreApart : List Literal → Type 0
AreApart literals = (i j : ℕ) (a b : Literal) → slice_get literals i ≡ Some a → slice_get literals j ≡ Some b → a.variable ≡ b.variable → i ≡ j

-- neither false nor unit: a literal is true, or two are not false
abbrev pub IsLive : (truths : List Literal) → Clause → Type 0
IsLive truths clause = (finding truths clause ≡ Holds) ⊎ (finding truths clause ≡ Several)

abbrev pub AreLive : (truths : List Literal) → List Clause → Type 0
AreLive truths clauses = (i : ℕ) (clause : Clause) → slice_get clauses i ≡ Some clause → IsLive truths clause
