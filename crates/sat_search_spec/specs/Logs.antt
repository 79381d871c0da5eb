-- The logs that a search hands out: `Spent` where its limit was reached, `Lean` where it closed the clauses.
use Rattle.std.specs.Prelude.{◌≡◌, ℕ, ◌+◌, ◌-◌, ◌<◌, ◌≤◌, true, List, [], ◌∷◌, ◌++◌, Some, slice_get, length, take, map}
use Rattle.clause_check_spec.specs.declared.Literal.{Literal}
use Rattle.clause_check_spec.specs.Clause.{Clause, Cnf, negation}
use Rattle.clause_check_spec.specs.Step.{finding, Forces, are_fit, outcome, Follows}
use Rattle.clause_check_spec.specs.Log.{Step}
use Rattle.sat_search_spec.specs.Clauses.{AreApart, AreLive}
use Rattle.sat_search_spec.specs.Chain.{AreNamed, Chain}

-- Some partial assignment leaves one literal of the clause without value and makes the others false, and makes none of
-- the clauses before it false or unit. So unit propagation over those doesn't give the one that is left.
pub record IsNew (clauses : List Clause) (literals : List Literal) : Type 0 where
  pub assignment : List Literal
  pub apart : AreApart assignment
  pub left : Literal
  pub forced : finding assignment literals ≡ Forces left
  pub live : AreLive assignment clauses

-- the clauses before a step of a log
abbrev pub before : List Clause → List Step → ℕ → List Clause
before clauses log i = clauses ++ map (λ step. step.literals) (take i log)

-- exactly so many learnt clauses, none empty, each following by its hints, all of which are used, and new; none has a
-- literal that isn't in the clause of one of its hints
pub record Spent (cnf : Cnf) (log : List Step) (limit : ℕ) : Type 0 where
  pub count : length log ≡ limit
  pub nonempty : (i : ℕ) (step : Step) → slice_get log i ≡ Some step → step.literals ≡ [] → ⊥
  pub follows : (i : ℕ) (step : Step) → slice_get log i ≡ Some step
      → outcome cnf.variables (before cnf.clauses log i) step.literals step.hints ≡ Follows
  -- the literal that a hint makes true is negated in the clause of a later hint
  pub chained : (i : ℕ) (step : Step) → slice_get log i ≡ Some step
      → Chain (before cnf.clauses log i) (map negation step.literals) step.hints
  pub named : (i : ℕ) (step : Step) → slice_get log i ≡ Some step → AreNamed (before cnf.clauses log i) step.literals step.hints
  pub is_new : (i : ℕ) (step : Step) → slice_get log i ≡ Some step → IsNew (before cnf.clauses log i) step.literals

-- the clause of a number is a hint of a step after a place
pub record IsUsed (log : List Step) (after : ℕ) (number : ℕ) : Type 0 where
  pub place : ℕ
  pub later : after < place
  pub step : Step
  pub there : slice_get log place ≡ Some step
  pub position : ℕ
  pub hint : slice_get step.hints position ≡ Some number

-- at most so many learnt clauses, none but the last empty, each new and each used; none but the last has a literal that
-- isn't in the clause of one of its hints
pub record Lean (cnf : Cnf) (log : List Step) (limit : ℕ) : Type 0 where
  pub count : length log ≤ limit
  pub nonempty : (i : ℕ) (step : Step) → slice_get log i ≡ Some step → i + 1 < length log → step.literals ≡ [] → ⊥
  pub is_new : (i : ℕ) (step : Step) → slice_get log i ≡ Some step → (step.literals ≡ [] → ⊥)
      → IsNew (before cnf.clauses log i) step.literals
  -- each but the last is a hint of a later one; clauses are numbered from 1
  pub used : (i : ℕ) (step : Step) → slice_get log i ≡ Some step → i + 1 < length log → IsUsed log i (length cnf.clauses + (i + 1))
  -- the literal that a hint makes true is negated in the clause of a later hint
  pub chained : (i : ℕ) (step : Step) → slice_get log i ≡ Some step
      → Chain (before cnf.clauses log i) (map negation step.literals) step.hints
  pub named : (i : ℕ) (step : Step) → slice_get log i ≡ Some step → i + 1 < length log
      → AreNamed (before cnf.clauses log i) step.literals step.hints

-- what the search knows of a step that it adds to clauses
pub record IsLearnt (variables : ℕ) (clauses : List Clause) (step : Step) : Type 0 where
  pub fit : are_fit variables step.literals ≡ true
  pub chain : Chain clauses (map negation step.literals) step.hints
  pub named : AreNamed clauses step.literals step.hints
  pub is_new : (step.literals ≡ [] → ⊥) → IsNew clauses step.literals

-- the log of a search so far
pub record IsLog (cnf : Cnf) (clauses : List Clause) (log : List Step) : Type 0 where
  pub clauses_are : clauses ≡ cnf.clauses ++ map (λ step. step.literals) log
  pub learnt : (i : ℕ) (step : Step) → slice_get log i ≡ Some step → IsLearnt cnf.variables (before cnf.clauses log i) step
  pub nonempty : (i : ℕ) (step : Step) → slice_get log i ≡ Some step → step.literals ≡ [] → ⊥

-- a log whose last step, and no other, is empty
pub record IsClosing (cnf : Cnf) (log : List Step) : Type 0 where
  pub learnt : (i : ℕ) (step : Step) → slice_get log i ≡ Some step → IsLearnt cnf.variables (before cnf.clauses log i) step
  pub nonempty : (i : ℕ) (step : Step) → slice_get log i ≡ Some step → i + 1 < length log → step.literals ≡ [] → ⊥
  pub last : Step
  pub ends : slice_get log (length log - 1) ≡ Some last
  pub closes : last.literals ≡ []
