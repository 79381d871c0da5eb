-- What a log comes to whose steps are given one after the other.
use Rattle.std.specs.Prelude.{◌≡◌, ◌≢◌, ℕ, ◌<◌, ◌≤◌, Bool, true, false, List, [], ◌∷◌, ◌++◌, Option, Some, None, Result, Ok, Err}
use Rattle.std.specs.Option.{option_map}
use Rattle.memory_spec.specs.Runs.{Run}
use Rattle.term_core_spec.specs.Term.{Term}
use Rattle.term_norm_spec.specs.Normal.{normal}
use Rattle.clause_check_spec.specs.declared.Literal.{Literal}
use Rattle.clause_check_spec.specs.Clause.{Clause, Cnf}
use Rattle.clause_check_spec.specs.Log.{Step}
use Rattle.clause_check_spec.specs.Step.{Follows, Refused, outcome}
use Rattle.clause_check.specs.Logged.{Logged, clauses_of}
use Rattle.clause_check.specs.declared.hints.StepFault.{StepFault}
use Rattle.attempt.specs.declared.refusal.Refusal.{Refusal}
use Rattle.attempt.specs.declared.refusal.Refusal.TheVariants.{Fault, NoMemory}
use Rattle.bit_blast_spec.specs.Goal.{cnf_of}
use Rattle.discharge_spec.specs.declared.GoalQuantity.TheVariants.{Terms, Variables}
use Rattle.tv_limits.specs.declared.TheConstants.{MAX_VARIABLES}
use Rattle.cnf_core.specs.declared.literals.TheConstants.{MAX_VARIABLE}
use Rattle.discharge_spec.specs.Closing.{Closing, Closes, checked, is_empty, is_truth, IsWithin, IsFirstAbove}
use Rattle.discharge.specs.declared.error.CloseFault.{CloseFault}
use Rattle.discharge.specs.declared.error.CloseFault.TheVariants as close
use Rattle.discharge.specs.declared.closer.Closer.{Closer}
use Rattle.discharge.specs.Answers.{ends_empty}

-- a log up to some step: the variables, the clauses of the goal's normal form and of the steps so far, and whether there
-- are steps and the last has no literal
pub record OpenLog : Type 0 where
  pub variables : ℕ
  pub clauses : List Clause
  pub is_closed : Bool

abbrev pub opened : Logged → OpenLog
opened log = record { variables = log.cnf.variables; clauses = clauses_of log; is_closed = ends_empty log.added }

-- none where no step is needed and none is to come
abbrev pub open_of : Closer → Option OpenLog
open_of closer = option_map opened closer.log

abbrev pub is_closed : Option OpenLog → Bool
is_closed None = true
is_closed (Some log) = log.is_closed

-- what the steps that are to come make of it, the first by the number 1
abbrev pub outcome_by : Option OpenLog → List Step → Closing
outcome_by None steps = Closes
outcome_by (Some log) steps = checked log.variables log.clauses log.is_closed 1 steps

-- the numbers of its variables can be kept
abbrev pub IsBounded : Option OpenLog → Type 0
IsBounded None = Unit {0}
IsBounded (Some log) = log.variables ≤ MAX_VARIABLE

-- ---- before the first step

abbrev pub before_first : Cnf → OpenLog
before_first cnf = record { variables = cnf.variables; clauses = cnf.clauses; is_closed = false }

abbrev pub StartsAt : Cnf → Result Closer (Refusal CloseFault) → Type 0
StartsAt cnf (Ok closer) = open_of closer ≡ Some (before_first cnf)
StartsAt cnf (Err (Fault fault)) = ⊥
StartsAt cnf (Err NoMemory) = Unit {0}

-- of so many steps for a goal with this normal form: none is needed and none is to come, or its clauses don't have too
-- many variables
abbrev pub IsBegun : (form : Term) → (count : ℕ) → Option OpenLog → Type 0
IsBegun form count None = (is_truth form ≡ true) × (count ≡ 0)
IsBegun form count (Some log) = (is_truth form ≡ true → count ≢ 0) × ((cnf_of form).variables ≤ MAX_VARIABLES) × (log ≡ before_first (cnf_of form))

abbrev pub BeginsForm : (form : Term) → (count : ℕ) → Result Closer (Refusal CloseFault) → Type 0
BeginsForm form count (Ok closer) = IsBegun form count (open_of closer)
BeginsForm form count (Err (Fault (close.Large quantity least))) =
    (is_truth form ≡ true → count ≢ 0) × (quantity ≡ Variables) × (MAX_VARIABLES < least) × (least ≤ (cnf_of form).variables)
BeginsForm form count (Err (Fault (close.Step number))) = ⊥
BeginsForm form count (Err (Fault close.Unclosed)) = ⊥
BeginsForm form count (Err NoMemory) = Unit {0}

-- for a goal: it is begun, or this quantity is the first that is above its maximum
abbrev pub Begins : List Run → (goal : Term) → (count : ℕ) → Result Closer (Refusal CloseFault) → Type 0
Begins runs goal count (Ok closer) = IsWithin runs goal Terms × IsBegun (normal runs goal) count (open_of closer)
Begins runs goal count (Err (Fault (close.Large quantity least))) =
    (quantity ≡ Variables → is_truth (normal runs goal) ≡ true → count ≢ 0) × IsFirstAbove runs goal quantity least
Begins runs goal count (Err (Fault (close.Step number))) = ⊥
Begins runs goal count (Err (Fault close.Unclosed)) = ⊥
Begins runs goal count (Err NoMemory) = Unit {0}

-- ---- a step

-- with one step more
abbrev pub with_step : OpenLog → (literals : Clause) → OpenLog
with_step log literals = record { variables = log.variables; clauses = log.clauses ++ literals ∷ []; is_closed = is_empty literals }

-- the step follows, and is added; or it doesn't, for this reason
abbrev pub TakesStep : (old : OpenLog) → (now : Option OpenLog) → (literals : List Literal) → (hints : List ℕ) → Result (Unit {0}) (Refusal StepFault) → Type 0
TakesStep old now literals hints (Ok done) = (outcome old.variables old.clauses literals hints ≡ Follows) × (now ≡ Some (with_step old literals))
TakesStep old now literals hints (Err (Fault fault)) = outcome old.variables old.clauses literals hints ≡ Refused fault.hint fault.kind
TakesStep old now literals hints (Err NoMemory) = Unit {0}
