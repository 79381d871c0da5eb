-- Logs of steps: each adds a clause that follows from those before it.
use Rattle.std.specs.Prelude.{◌≡◌, ℕ, List, [], ◌∷◌, ◌++◌}
use Rattle.clause_check_spec.specs.declared.Literal.{Literal}
use Rattle.clause_check_spec.specs.Clause.{Clause, Cnf}
use Rattle.clause_check_spec.specs.Step.{outcome, Follows}

-- the literals of the clause that is added, and the numbers of the clauses that it follows from
pub record Step : Type 0 where
  pub literals : List Literal
  pub hints : List ℕ

-- each step follows from the clauses and from the steps before it
pub data AllFollow (variables : ℕ) : List Clause → List Step → Type 0 where
  none : (clauses : List Clause) → AllFollow variables clauses []
  some : (clauses : List Clause) (step : Step) (rest : List Step) → outcome variables clauses step.literals step.hints ≡ Follows
      → AllFollow variables (clauses ++ step.literals ∷ []) rest → AllFollow variables clauses (step ∷ rest)

-- the steps show that no assignment satisfies the clauses: each follows, and the last has no literal
pub record Refutes (cnf : Cnf) (steps : List Step) : Type 0 where
  pub follows : AllFollow cnf.variables cnf.clauses steps
  pub prefix : List Step
  pub last : Step
  pub ends : steps ≡ prefix ++ last ∷ []
  pub closes : last.literals ≡ []
