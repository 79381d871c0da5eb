-- Logs that are open, and what their lines and their steps do.
use Rattle.std.specs.Prelude.{◌≡◌, ℕ, suc, ◌+◌, ◌<◌, ◌≤◌, nat_le, if◌then◌else◌, Bool, true, false, List, [], ◌∷◌, ◌++◌, length, Option, Some, None, Result, Ok, Err, OnOk, IfOk}
use Rattle.memory_spec.specs.Viewed.{runs_of}
use Rattle.term_bank.specs.Nodes.{Extends, tree_at}
use Rattle.clause_check_spec.specs.declared.Literal as clause
use Rattle.clause_check_spec.specs.declared.StepFaultKind.{StepFaultKind}
use Rattle.clause_check_spec.specs.Log.{Step}
use Rattle.clause_check_spec.specs.Step.{Follows, Refused, outcome}
use Rattle.cnf_core.specs.declared.literals.TheConstants.{MAX_VARIABLE}
use Rattle.discharge_spec.specs.declared.GoalQuantity.TheVariants as above
use Rattle.discharge_spec.specs.Closing.{is_empty}
use Rattle.discharge.specs.Closers.{OpenLog, Begins, is_closed, open_of, with_step}
use Rattle.discharge.specs.declared.closer.Closer.{Closer}
use Rattle.discharge.specs.declared.error.CloseFault.{CloseFault}
use Rattle.discharge.specs.declared.error.CloseFault.TheVariants as close
use Rattle.attempt.specs.declared.refusal.Refusal.{Refusal}
use Rattle.attempt.specs.declared.refusal.Refusal.TheVariants.{Fault, NoMemory}
use Rattle.cert_text_spec.specs.Lines.{Log, line_text}
use Rattle.cert_text_spec.specs.Certificates.{Expected, ALog}
use Rattle.tv_limits.specs.declared.Quantity.TheVariants as quantity
use Rattle.cert_check_spec.specs.declared.RuleWord.{RuleWord}
use Rattle.cert_check_spec.specs.declared.RuleWord.TheVariants as fault
use Rattle.cert_check_lines_spec.specs.Jobs.{InLog}
use Rattle.cert_check_lines_spec.specs.LineRules as lines
use Rattle.cert_check_lines_spec.specs.Parts.{Functions, Member, State, Inside, unfolded}
use Rattle.cert_check_lines_spec.specs.Walk.{Going, Stopped, Takes}
use Rattle.cert_check_lines_spec.specs.Known.{is_known}
use Rattle.cert_check.specs.declared.fault.NamedFault.{NamedFault}
use Rattle.cert_check.specs.declared.fault.NamedFault.TheVariants.{Broken, Above}
use Rattle.cert_check.specs.declared.fault.Named.TheVariants as named
use Rattle.cert_check.specs.declared.fault.Placed.{Placed}
use Rattle.cert_check.specs.declared.logs.OpenLine.{OpenLine}
use Rattle.cert_check.specs.declared.walk.Walk.{Walk}
use Rattle.cert_check_jobs.specs.declared.jobs.Job.TheVariants.{Close}
use Rattle.cert_check_frames.specs.declared.listed.Listed.{Listed}
use Rattle.cert_check_frames.specs.Parts.{IsNamed}
use Rattle.cert_check.specs.Members.{AreMembers}
use Rattle.cert_check.specs.Walks.{IsPart, walk_jobs, IsState, Expecting, Keeps, IsSound}

-- a literal; one of no variable where the number is above those that are kept
abbrev pub clipped : clause.Literal → clause.Literal
clipped l = if nat_le l.variable MAX_VARIABLE then l else record { variable = 0; is_negated = l.is_negated }

-- why no log begins in the part of a listed function
abbrev pub begin_fault : (part : ℕ) → Refusal CloseFault → Refusal NamedFault
begin_fault part (Fault (close.Large above.Terms count)) = Fault (Above quantity.Terms)
begin_fault part (Fault (close.Large above.Variables count)) = Fault (Above quantity.Variables)
begin_fault part (Fault (close.Step number)) = Fault (Broken (named.Listed part) fault.Step)
begin_fault part (Fault close.Unclosed) = Fault (Broken (named.Listed part) fault.Unclosed)
begin_fault part NoMemory = NoMemory

-- ---- the line of a log

-- a log of so many steps is begun for the first obligation of the part of a function
pub record BeginsFirst (function : Listed) (old now : Walk) (count : ℕ) (result : Result Closer (Refusal CloseFault)) : Type 0 where
  pub parts : now.parts ≡ old.parts
  pub kept : OnOk result (Keeps function now)
  pub goal : ℕ
  pub first : old.jobs.items ≡ now.jobs.items ++ Close goal ∷ []
  pub extends : Extends old.bank now.bank
  pub begins : Begins (runs_of function.runs.now) (tree_at old.bank goal) count result

-- where the log of a closer begins, so many steps are to come: it is open before the first, or there is none and the goal
-- is closed; or there is none and it isn't
abbrev pub IsOpened : Closer → (count place : ℕ) → Result (Option OpenLine) RuleWord → Type 0
IsOpened closer count place (Ok (Some current)) = (count ≡ suc current.left) × (current.place ≡ place) × (current.closer ≡ closer)
IsOpened closer count place (Ok None) = (count ≡ 0) × (is_closed (open_of closer) ≡ true)
IsOpened closer count place (Err fault.Unclosed) = (count ≡ 0) × (is_closed (open_of closer) ≡ false)
IsOpened closer count place (Err other) = ⊥

-- the state where a log may be open: its line has the place, which begins at an offset
pub data IsAt (codes : List Listed) (members : List Member) (offsets : ℕ → ℕ) (walk : Walk) (log : Option OpenLine) : State → Type 0 where
  no_log : (s : State) → log ≡ None → IsState codes members walk s → IsAt codes members offsets walk log s
  in_log : (current : OpenLine) (steps : OpenLog) (function : Listed) (f : Member) (parts : List Member) → log ≡ Some current → open_of current.closer ≡ Some steps
      → IsPart codes members walk function f parts
      → IsAt codes members offsets walk log (Inside parts f (unfolded f) (InLog (offsets current.place) steps.variables steps.clauses current.left ∷ walk_jobs walk function))

-- what is open takes steps: the numbers of its variables can be kept
pub record CanStep (current : OpenLine) : Type 0 where
  pub steps : OpenLog
  pub is : open_of current.closer ≡ Some steps
  pub bounded : steps.variables ≤ MAX_VARIABLE

-- the log of so many steps, whose line has the place, breaks no rule, and is open there if it has steps; or this is what it
-- breaks
abbrev pub LogComes : List Listed → Functions → (members : List Member) → (offsets : ℕ → ℕ) → (now : Walk) → State → (count place : ℕ)
    → Result (Option OpenLine) (Refusal NamedFault) → Type 0
LogComes codes fs members offsets now s count place (Ok log) =
    (next : State) × Takes fs members is_known (Going (offsets place) s) (Log count) (Going (offsets place + length (line_text (Log count))) next)
    × IsAt codes members offsets now log next
LogComes codes fs members offsets now s count place (Err (Fault (Broken (named.Listed k) rule))) =
    (name : List ℕ) × IsNamed codes k name × Takes fs members is_known (Going (offsets place) s) (Log count) (Stopped (offsets place) name (lines.Breaks rule))
LogComes codes fs members offsets now s count place (Err (Fault (Broken (named.Line n) rule))) = ⊥
LogComes codes fs members offsets now s count place (Err (Fault (Above q))) =
    (name : List ℕ) × Takes fs members is_known (Going (offsets place) s) (Log count) (Stopped (offsets place) name (lines.Above q))
LogComes codes fs members offsets now s count place (Err NoMemory) = Unit {0}

-- the log that is open, if one is: before the first of so many steps
abbrev pub OpensLog : (count place : ℕ) → Option OpenLine → Type 0
OpensLog count place None = count ≡ 0
OpensLog count place (Some current) = (count ≡ suc current.left) × (current.place ≡ place) × CanStep current

pub record GoesLog (codes : List Listed) (old now : Walk) (count place : ℕ) (result : Result (Option OpenLine) (Refusal NamedFault)) : Type 0 where
  pub sound : OnOk result (IsSound codes now)
  pub follows : OnOk result ((others : List Expected) → Expecting old (ALog ∷ others) → Expecting now others)
  pub begun : OnOk result (0 < length now.parts.items)
  pub opens : IfOk result (OpensLog count place)
  pub step : (fs : Functions) (members : List Member) (offsets : ℕ → ℕ) → AreMembers codes members → (s : State) → IsState codes members old s
      → LogComes codes fs members offsets now s count place result

-- ---- steps

-- The step follows, and the log goes on with one step less to come, or it closes its goal; or the step, whose line has a
-- place, doesn't follow; or it is the last, and the goal isn't closed, which is the fault of the log's own line.
pub data IsStepFault (part : ℕ) (old : OpenLine) (steps : OpenLog) (one : Step) (place : ℕ) : Placed → Type 0 where
  refused : (hint : ℕ) (kind : StepFaultKind) → outcome steps.variables steps.clauses one.literals one.hints ≡ Refused hint kind
      → IsStepFault part old steps one place (record { place = place; fault = Broken (named.Listed part) fault.Step })
  unclosed : outcome steps.variables steps.clauses one.literals one.hints ≡ Follows → is_empty one.literals ≡ false → old.left ≡ 0
      → IsStepFault part old steps one place (record { place = old.place; fault = Broken (named.Listed part) fault.Unclosed })

abbrev pub TakesOne : (part : ℕ) → (old new : OpenLine) → (steps : OpenLog) → Step → (place : ℕ) → Result Bool (Refusal Placed) → Type 0
TakesOne part old new steps one place (Ok true) =
    (outcome steps.variables steps.clauses one.literals one.hints ≡ Follows) × (open_of new.closer ≡ Some (with_step steps one.literals)) × (old.left ≡ suc new.left)
    × (new.place ≡ old.place)
TakesOne part old new steps one place (Ok false) =
    (outcome steps.variables steps.clauses one.literals one.hints ≡ Follows) × (is_empty one.literals ≡ true) × (old.left ≡ 0)
TakesOne part old new steps one place (Err (Fault broken)) = IsStepFault part old steps one place broken
TakesOne part old new steps one place (Err NoMemory) = Unit {0}

abbrev pub StepsLog : (part : ℕ) → (old new : OpenLine) → Step → (place : ℕ) → Result Bool (Refusal Placed) → Type 0
StepsLog part old new one place result = (steps : OpenLog) → open_of old.closer ≡ Some steps → TakesOne part old new steps one place result
