-- Goals over truth values, and their clauses: variable 1 is truth, then the subterms follow in post-order.
use Rattle.std.specs.Prelude.{true, false, [], ◌∷◌}
use Rattle.term_core_spec.specs.Term.{Term, truth, not_term, and_term, or_term, equal, choose}
use Rattle.clause_check_spec.specs.Clause.{Cnf}
use Rattle.example_laws.specs.Goals.{is, isnt, p, q, r}

-- no gate: the literal of `true` is truth itself
abbrev pub truth_clauses : Cnf
truth_clauses = record { variables = 1; clauses = (is 1 ∷ []) ∷ (isnt 1 ∷ []) ∷ [] }

abbrev pub falsehood_clauses : Cnf
falsehood_clauses = record { variables = 1; clauses = (is 1 ∷ []) ∷ (is 1 ∷ []) ∷ [] }

-- a variable has no clause of its own
abbrev pub variable_clauses : Cnf
variable_clauses = record { variables = 2; clauses = (is 1 ∷ []) ∷ (isnt 2 ∷ []) ∷ [] }

abbrev pub negated_clauses : Cnf
negated_clauses = record { variables = 2; clauses = (is 1 ∷ []) ∷ (is 2 ∷ []) ∷ [] }

-- p is 2, q is 3
abbrev pub both_clauses : Cnf
both_clauses = record {
  variables = 4;
  clauses = (is 1 ∷ [])
      ∷ (isnt 4 ∷ is 2 ∷ []) ∷ (isnt 4 ∷ is 3 ∷ []) ∷ (is 4 ∷ isnt 2 ∷ isnt 3 ∷ [])
      ∷ (isnt 4 ∷ []) ∷ [];
}

-- p is once there, and its negation is the same variable
abbrev pub excluded_middle : Term
excluded_middle = or_term p (not_term p)

abbrev pub excluded_middle_clauses : Cnf
excluded_middle_clauses = record {
  variables = 3;
  clauses = (is 1 ∷ [])
      ∷ (isnt 3 ∷ isnt 2 ∷ []) ∷ (isnt 3 ∷ is 2 ∷ []) ∷ (is 3 ∷ is 2 ∷ isnt 2 ∷ [])
      ∷ (is 3 ∷ []) ∷ [];
}

-- p is 2, q is 3; they are equal where the exclusive or, 4, is false
abbrev pub alike_clauses : Cnf
alike_clauses = record {
  variables = 4;
  clauses = (is 1 ∷ [])
      ∷ (isnt 4 ∷ is 2 ∷ is 3 ∷ []) ∷ (isnt 4 ∷ isnt 2 ∷ isnt 3 ∷ []) ∷ (is 4 ∷ isnt 2 ∷ is 3 ∷ []) ∷ (is 4 ∷ is 2 ∷ isnt 3 ∷ [])
      ∷ (is 4 ∷ []) ∷ [];
}

-- p is 2, q is 3, r is 4
abbrev pub choice_clauses : Cnf
choice_clauses = record {
  variables = 5;
  clauses = (is 1 ∷ [])
      ∷ (isnt 2 ∷ isnt 3 ∷ is 5 ∷ []) ∷ (isnt 2 ∷ is 3 ∷ isnt 5 ∷ []) ∷ (is 2 ∷ isnt 4 ∷ is 5 ∷ []) ∷ (is 2 ∷ is 4 ∷ isnt 5 ∷ [])
      ∷ (isnt 5 ∷ []) ∷ [];
}

-- `and p q`, which is 4, occurs twice and is made once; r is 5, the or of 4 and r is the negation of 6, and 7 is all
abbrev pub absorbed : Term
absorbed = and_term (or_term (and_term p q) r) (and_term p q)

abbrev pub absorbed_clauses : Cnf
absorbed_clauses = record {
  variables = 7;
  clauses = (is 1 ∷ [])
      ∷ (isnt 4 ∷ is 2 ∷ []) ∷ (isnt 4 ∷ is 3 ∷ []) ∷ (is 4 ∷ isnt 2 ∷ isnt 3 ∷ [])
      ∷ (isnt 6 ∷ isnt 4 ∷ []) ∷ (isnt 6 ∷ isnt 5 ∷ []) ∷ (is 6 ∷ is 4 ∷ is 5 ∷ [])
      ∷ (isnt 7 ∷ isnt 6 ∷ []) ∷ (isnt 7 ∷ is 4 ∷ []) ∷ (is 7 ∷ is 6 ∷ isnt 4 ∷ [])
      ∷ (isnt 7 ∷ []) ∷ [];
}
