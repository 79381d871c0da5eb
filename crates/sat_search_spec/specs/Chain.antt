-- Hints that lead to a conflict, each of them used.
use Rattle.std.specs.Prelude.{◌≡◌, ℕ, List, [], ◌∷◌, ◌++◌, Some, slice_get}
use Rattle.clause_check_spec.specs.declared.Literal.{Literal}
use Rattle.clause_check_spec.specs.Clause.{Clause, negation}
use Rattle.clause_check_spec.specs.Step.{finding_at, Forces, Fails}
use Rattle.sat_search_spec.specs.Clauses.{Has, Numbered}

-- the literal is in the clause of one of these hints
pub record Named (clauses : List Clause) (literal : Literal) (hints : List ℕ) : Type 0 where
  pub place : ℕ
  pub number : ℕ
  pub hint : slice_get hints place ≡ Some number
  pub clause : Clause
  pub numbered : Numbered clauses number clause
  pub has : Has clause literal

-- each of these literals is in the clause of one of these hints
abbrev pub AreNamed : List Clause → List Literal → List ℕ → Type 0
AreNamed clauses literals hints = (literal : Literal) → Has literals literal → Named clauses literal hints

-- each hint but the last forces a literal, which is negated in the clause of a later one, and the last one fails
pub data Chain (clauses : List Clause) : List Literal → List ℕ → Type 0 where
  ends : (truths : List Literal) (number : ℕ) → finding_at clauses truths number ≡ Fails → Chain clauses truths (number ∷ [])
  forces : (truths : List Literal) (number : ℕ) (literal : Literal) (hints : List ℕ) → finding_at clauses truths number ≡ Forces literal
      → Named clauses (negation literal) hints → Chain clauses (truths ++ literal ∷ []) hints → Chain clauses truths (number ∷ hints)
