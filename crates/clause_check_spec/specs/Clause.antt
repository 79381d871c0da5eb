-- Clauses, and which assignments satisfy them.
use Rattle.std.specs.Prelude.{ℕ, ◌==◌, ◌&&◌, nat_le, not, Bool, true, false, if◌then◌else◌, List}
use Rattle.std.specs.List.{list_any, list_all}
use Rattle.clause_check_spec.specs.declared.Literal.{Literal}

-- an assignment satisfies a clause where one of its literals holds; a clause is a set, so order and repetition don't matter
abbrev pub Clause : Type 0
Clause = List Literal

-- clauses over the variables from 1 to a number
pub record Cnf : Type 0 where
  pub variables : ℕ
  pub clauses : List Clause

-- an assignment: a truth value for each variable
abbrev pub Valuation : Type 0
Valuation = ℕ → Bool

abbrev pub holds : Valuation → Literal → Bool
holds values literal = if literal.is_negated then not (values literal.variable) else values literal.variable

abbrev pub satisfies_clause : Valuation → Clause → Bool
satisfies_clause values clause = list_any (holds values) clause

abbrev pub satisfies : Valuation → List Clause → Bool
satisfies values clauses = list_all (satisfies_clause values) clauses

abbrev pub negation : Literal → Literal
negation literal = record { variable = literal.variable; is_negated = not literal.is_negated }

abbrev pub same_sign : Bool → Bool → Bool
same_sign true b = b
same_sign false b = not b

abbrev pub same_literal : Literal → Literal → Bool
same_literal a b = (a.variable == b.variable) && same_sign a.is_negated b.is_negated

-- the literal is of a variable from 1 to this number
abbrev pub is_of : (variables : ℕ) → Literal → Bool
is_of variables literal = nat_le 1 literal.variable && nat_le literal.variable variables

-- so is each literal of these clauses
abbrev pub are_of : (variables : ℕ) → List Clause → Bool
are_of variables clauses = list_all (list_all (is_of variables)) clauses
