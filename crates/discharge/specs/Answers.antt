-- What closing and seeking answer.
use Rattle.std.specs.Prelude.{◌≡◌, ℕ, ◌-◌, ◌<◌, ◌≤◌, Bool, false, List, [], ◌∷◌, ◌++◌, length, Option, Some, None, slice_get, Result, Ok, Err}
use Rattle.memory_spec.specs.Runs.{Run}
use Rattle.term_core_spec.specs.Term.{Term}
use Rattle.term_core_spec.specs.Value.{Truth, value}
use Rattle.term_core.specs.declared.assignment.Assignment.{Assignment}
use Rattle.term_core.specs.Assignment.{assignment_of}
use Rattle.term_norm_spec.specs.Normal.{normal}
use Rattle.clause_check_spec.specs.declared.StepFaultKind.{StepFaultKind}
use Rattle.clause_check_spec.specs.Clause.{Clause}
use Rattle.clause_check_spec.specs.Log.{Step}
use Rattle.clause_check_spec.specs.Step.{Follows, Refused, outcome}
use Rattle.clause_check.specs.Logged.{Logged, clauses_of}
use Rattle.attempt.specs.declared.refusal.Refusal.{Refusal}
use Rattle.attempt.specs.declared.refusal.Refusal.TheVariants.{Fault, NoMemory}
use Rattle.clause_check.specs.declared.hints.StepFault.{StepFault}
use Rattle.discharge.specs.declared.error.CloseFault.{CloseFault}
use Rattle.discharge.specs.declared.error.SeekFault.{SeekFault}
use Rattle.discharge.specs.declared.error.CloseFault.TheVariants as close
use Rattle.discharge.specs.declared.error.SeekFault.TheVariants as seek
use Rattle.bit_blast_spec.specs.Goal.{cnf_of}
use Rattle.sat_search_spec.specs.Logs.{Spent, Lean}
use Rattle.discharge_spec.specs.declared.GoalQuantity.TheVariants.{Terms, Variables}
use Rattle.tv_limits.specs.declared.TheConstants.{MAX_VARIABLES}
use Rattle.discharge_spec.specs.Closing.{Closing, Closes, IsLarge, Fails, Unclosed, is_empty, closing_of_form, closing, IsWithin, IsSmall, IsFirstAbove}
use Rattle.discharge.specs.declared.seeking.Sought.{Sought}
use Rattle.discharge.specs.declared.seeking.Sought.TheVariants.{Valid, Refuted, Limit}

-- what a log comes to; out of memory is free
abbrev pub Answers : {A : Type 0} → Closing → Result A (Refusal CloseFault) → Type 0
Answers verdict (Ok done) = verdict ≡ Closes
Answers verdict (Err (Fault (close.Large quantity count))) = verdict ≡ IsLarge quantity
Answers verdict (Err (Fault (close.Step number))) = verdict ≡ Fails number
Answers verdict (Err (Fault close.Unclosed)) = verdict ≡ Unclosed
Answers verdict (Err NoMemory) = Unit {0}

abbrev pub CountsLarge : {A : Type 0} → List Run → (goal : Term) → Result A (Refusal CloseFault) → Type 0
CountsLarge runs goal (Err (Fault (close.Large quantity count))) = IsFirstAbove runs goal quantity count
CountsLarge runs goal other = Unit {0}

-- what adding the first of some steps to a log comes to
abbrev pub TakesFirst : (before after : List Step) → (old new : Logged) → Result (Unit {0}) (Refusal StepFault) → Type 0
TakesFirst before after old new (Ok done) =
    (step : Step) × (before ≡ step ∷ after) × (outcome old.cnf.variables (clauses_of old) step.literals step.hints ≡ Follows) × (new.cnf ≡ old.cnf)
    × (new.added ≡ old.added ++ step.literals ∷ [])
TakesFirst before after old new (Err (Fault fault)) =
    (step : Step) × (others : List Step) × (before ≡ step ∷ others) × (hint : ℕ) × (kind : StepFaultKind)
    × (outcome old.cnf.variables (clauses_of old) step.literals step.hints ≡ Refused hint kind)
TakesFirst before after old new (Err NoMemory) = Unit {0}

-- why a log with it doesn't close a goal, where it is the step of a number
abbrev pub refusal : Refusal StepFault → (number : ℕ) → Refusal CloseFault
refusal (Fault fault) number = Fault (close.Step number)
refusal NoMemory number = NoMemory

-- whether a clause is there and has no literal
abbrev pub is_empty_some : Option Clause → Bool
is_empty_some None = false
is_empty_some (Some clause) = is_empty clause

-- whether clauses were added and the last has no literal
abbrev pub ends_empty : List Clause → Bool
ends_empty clauses = is_empty_some (slice_get clauses (length clauses - 1))

-- it makes the normal form of the goal false, which doesn't have too many terms
abbrev pub RefutesGoal : List Run → (goal : Term) → Assignment → Type 0
RefutesGoal runs goal assignment = IsWithin runs goal Terms × (value (assignment_of assignment) (normal runs goal) ≡ Truth false)

-- its clauses have at most the maximum of variables
abbrev pub HasFewVariables : (form : Term) → Type 0
HasFewVariables form = (cnf_of form).variables ≤ MAX_VARIABLES

-- What the search for a log finds, for a goal in normal form: a log that closes it; or, of one whose clauses don't have
-- too many variables, an assignment under which it is false, or the log of as many learnt clauses as were allowed.
abbrev pub IsSought : (form : Term) → (limit : ℕ) → Sought → Type 0
IsSought form limit (Valid log) = (closing_of_form form log.items ≡ Closes) × Lean (cnf_of form) log.items limit
IsSought form limit (Refuted assignment) = HasFewVariables form × (value (assignment_of assignment) form ≡ Truth false)
IsSought form limit (Limit log) = HasFewVariables form × Spent (cnf_of form) log.items limit

abbrev pub SeeksForm : (form : Term) → (limit : ℕ) → Result Sought (Refusal SeekFault) → Type 0
SeeksForm form limit (Ok sought) = IsSought form limit sought
SeeksForm form limit (Err (Fault (seek.Large quantity count))) = (quantity ≡ Variables) × (MAX_VARIABLES < count) × (count ≤ (cnf_of form).variables)
SeeksForm form limit (Err NoMemory) = Unit {0}

-- The same for a goal, before its normal form is made: what isn't closed and has a quantity above its maximum is too
-- large, and is neither refuted nor searched.
abbrev pub Seeks : List Run → (goal : Term) → (limit : ℕ) → Result Sought (Refusal SeekFault) → Type 0
Seeks runs goal limit (Ok (Valid log)) = (closing runs goal log.items ≡ Closes) × Lean (cnf_of (normal runs goal)) log.items limit
Seeks runs goal limit (Ok (Refuted assignment)) =
    IsSmall runs goal × (value (assignment_of assignment) (normal runs goal) ≡ Truth false)
Seeks runs goal limit (Ok (Limit log)) = IsSmall runs goal × Spent (cnf_of (normal runs goal)) log.items limit
Seeks runs goal limit (Err (Fault (seek.Large quantity count))) = IsFirstAbove runs goal quantity count
Seeks runs goal limit (Err NoMemory) = Unit {0}
