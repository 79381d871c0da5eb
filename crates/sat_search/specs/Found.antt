-- The answers of the search.
use Rattle.std.specs.Prelude.{◌≡◌, ℕ, ◌++◌, true, List, length}
use Rattle.clause_check_spec.specs.Clause.{Clause, Cnf, satisfies}
use Rattle.clause_check_spec.specs.Log.{Refutes}
use Rattle.cnf_core.specs.Bits.{valuation}
use Rattle.sat_search_spec.specs.Logs.{Spent, Lean}
use Rattle.sat_search_spec.specs.Trail.{Trailed, IsSound, IsConflict}
use Rattle.sat_search.specs.declared.solution.Found.{Found}
use Rattle.sat_search.specs.declared.solution.Found.TheVariants.{Closed, Model, Limit}

-- Closed: a lean log that refutes the clauses. Model: bits that satisfy them. Limit: a log of as many learnt clauses
abbrev pub IsFound : Cnf → (limit : ℕ) → Found → Type 0
IsFound cnf limit (Closed log) = Refutes cnf log.items × Lean cnf log.items limit
IsFound cnf limit (Model bits) = (length bits.items ≡ cnf.variables) × (satisfies (valuation bits.items) cnf.clauses ≡ true)
IsFound cnf limit (Limit log) = Spent cnf log.items limit

-- the first clauses, of which one is false before every decision
pub record IsRefuted (cnf : Cnf) (clauses : List Clause) (trail : Trailed) (number : ℕ) : Type 0 where
  pub sound : IsSound clauses trail
  pub conflict : IsConflict clauses trail.entries number
  pub undecided : trail.level ≡ 0
  pub more : List Clause
  pub front : cnf.clauses ≡ clauses ++ more
