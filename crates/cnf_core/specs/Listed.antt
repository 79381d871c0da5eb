-- Clauses one after the other, and the room after them.
use Rattle.std.specs.Prelude.{ℕ, List}
use Rattle.clause_check_spec.specs.Clause.{Clause}

-- clauses of so many literals, counted with one for each clause, are added without taking memory
pub record Listed : Type 0 where
  pub clauses : List Clause
  pub spare : ℕ
