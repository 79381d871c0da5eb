-- Models of clauses, and goals that can be false.
use Rattle.std.specs.Prelude.{◌≡◌, true, false}
use Rattle.clause_check_spec.specs.Clause.{Cnf, Valuation, satisfies}
use Rattle.term_core_spec.specs.Term.{Term}
use Rattle.term_core_spec.specs.Value.{Truth, Assignment, IsAssignment, value}

-- an assignment satisfies the clauses
abbrev pub HasModel : Cnf → Type 0
HasModel cnf = (values : Valuation) × (satisfies values cnf.clauses ≡ true)

-- the truth value is false under some assignment
abbrev pub CanBeFalse : Term → Type 0
CanBeFalse goal = (assignment : Assignment) × IsAssignment assignment × (value assignment goal ≡ Truth false)
