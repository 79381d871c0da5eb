-- A log as contracts see it.
use Rattle.std.specs.Prelude.{ℕ, List, ◌++◌}
use Rattle.clause_check_spec.specs.Clause.{Clause, Cnf}

pub record Logged : Type 0 where
  -- the clauses that it began with
  pub cnf : Cnf
  -- the clauses that its steps added
  pub added : List Clause
  -- clauses of so many literals, counted with one for each clause, are added without taking memory
  pub spare : ℕ

-- the clauses that hints name, the first by 1
abbrev pub clauses_of : Logged → List Clause
clauses_of log = log.cnf.clauses ++ log.added
