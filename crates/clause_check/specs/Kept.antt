-- What stays true of the clauses of a log, the first of which were given.
use Rattle.std.specs.Prelude.{◌≡◌, ◌≤◌, ℕ, true, List, length, take}
use Rattle.clause_check_spec.specs.Clause.{Clause, Valuation, satisfies, are_of}

pub record IsKept (variables given : ℕ) (clauses : List Clause) : Type 0 where
  pub named : are_of variables clauses ≡ true
  pub within : given ≤ length clauses
  -- an assignment that satisfies the given clauses satisfies all
  pub sound : (values : Valuation) → satisfies values (take given clauses) ≡ true → satisfies values clauses ≡ true
