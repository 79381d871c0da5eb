-- When a log closes a goal: the normal form of the goal is true and the log has no step; or each step follows from the
-- clauses of the normal form and from the steps before it, and the last has no literal.
use Rattle.std.specs.Prelude.{ℕ, ◌+◌, ◌<◌, ◌≤◌, ◌&&◌, Bool, true, false, if◌then◌else◌, nat_le, List, [], ◌∷◌, ◌++◌}
use Rattle.memory_spec.specs.Runs.{Run}
use Rattle.term_core_spec.specs.declared.Atom.TheVariants as atom
use Rattle.term_core_spec.specs.Term.{Term, Leaf}
use Rattle.term_core_spec.specs.Subterms.{subterm_count}
use Rattle.term_norm_spec.specs.Normal.{normal}
use Rattle.clause_check_spec.specs.declared.Literal.{Literal}
use Rattle.clause_check_spec.specs.Clause.{Clause, Cnf}
use Rattle.clause_check_spec.specs.Step.{Outcome, Follows, Refused, outcome}
use Rattle.clause_check_spec.specs.Log.{Step}
use Rattle.bit_blast_spec.specs.Goal.{cnf_of}
use Rattle.discharge_spec.specs.declared.GoalQuantity.{GoalQuantity}
use Rattle.discharge_spec.specs.declared.GoalQuantity.TheVariants.{Terms, Variables}
use Rattle.tv_limits.specs.declared.TheConstants.{MAX_TERMS, MAX_VARIABLES}

pub data Closing : Type 0 where
  Closes : Closing
  IsLarge : (quantity : GoalQuantity) → Closing
  -- the step of this number, counted from 1, doesn't follow, and those before it do
  Fails : (step : ℕ) → Closing
  -- all steps follow, and the last has a literal, or there is none
  Unclosed : Closing

abbrev pub is_empty : List Literal → Bool
is_empty [] = true
is_empty (literal ∷ others) = false

abbrev pub has_no_step : List Step → Bool
has_no_step [] = true
has_no_step (step ∷ steps) = false

abbrev pub is_truth : Term → Bool
is_truth (Leaf (atom.Truth truth)) = truth
is_truth other = false

-- after the outcome of the step of a number
abbrev pub after : Outcome → (number : ℕ) → (on : Closing) → Closing
after Follows number on = on
after (Refused hint kind) number on = Fails number

-- at the end of a log
abbrev pub at_end : (is_closed : Bool) → Closing
at_end is_closed = if is_closed then Closes else Unclosed

-- the steps that are left, from the one of a number on, where the step before it had no literal or had one
unfoldable pub checked : (variables : ℕ) → List Clause → (is_closed : Bool) → (number : ℕ) → List Step → Closing
checked variables clauses is_closed number [] = at_end is_closed
checked variables clauses is_closed number (step ∷ steps) =
    after (outcome variables clauses step.literals step.hints) number
    (checked variables (clauses ++ step.literals ∷ []) (is_empty step.literals) (number + 1) steps)

-- by clauses
abbrev pub closing_of_clauses : Cnf → List Step → Closing
closing_of_clauses cnf log =
    if nat_le cnf.variables MAX_VARIABLES then checked cnf.variables cnf.clauses false 1 log else IsLarge Variables

-- a goal in normal form
abbrev pub closing_of_form : (form : Term) → List Step → Closing
closing_of_form form log = if is_truth form && has_no_step log then Closes else closing_of_clauses (cnf_of form) log

-- a goal, by a log, where every memory of the source holds the fixed bytes
abbrev pub closing : List Run → (goal : Term) → List Step → Closing
closing runs goal log =
    if nat_le (subterm_count goal) MAX_TERMS then closing_of_form (normal runs goal) log else IsLarge Terms

-- a quantity of a goal
abbrev pub measured : List Run → (goal : Term) → GoalQuantity → ℕ
measured runs goal Terms = subterm_count goal
measured runs goal Variables = (cnf_of (normal runs goal)).variables

abbrev pub maximum : GoalQuantity → ℕ
maximum Terms = MAX_TERMS
maximum Variables = MAX_VARIABLES

abbrev pub IsWithin : List Run → (goal : Term) → GoalQuantity → Type 0
IsWithin runs goal quantity = measured runs goal quantity ≤ maximum quantity

-- no quantity of the goal is above its maximum
pub record IsSmall (runs : List Run) (goal : Term) : Type 0 where
  pub terms : IsWithin runs goal Terms
  pub variables : IsWithin runs goal Variables

-- the quantities that are tried before one are within their maxima
abbrev pub AreWithinBefore : List Run → (goal : Term) → GoalQuantity → Type 0
AreWithinBefore runs goal Terms = Unit {0}
AreWithinBefore runs goal Variables = IsWithin runs goal Terms

-- the first quantity that is above its maximum, which is below the count; the goal has as much at least
pub record IsFirstAbove (runs : List Run) (goal : Term) (quantity : GoalQuantity) (count : ℕ) : Type 0 where
  pub earlier : AreWithinBefore runs goal quantity
  pub above : maximum quantity < count
  pub least : count ≤ measured runs goal quantity
