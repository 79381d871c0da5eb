-- What a line does to a checker.
use Rattle.std.specs.Prelude.{◌≡◌, ◌⊎◌, ℕ, suc, ◌+◌, ◌<◌, true, List, [], ◌∷◌, ◌++◌, length, replicate, Option, Some, None, Result, Ok, Err, OnOk}
use Rattle.attempt.specs.declared.refusal.Refusal.{Refusal}
use Rattle.attempt.specs.declared.refusal.Refusal.TheVariants.{Fault, NoMemory}
use Rattle.cert_text_spec.specs.Lines.{Line, End, line_text}
use Rattle.cert_text_spec.specs.Certificates.{Expected, AStep, after, can_stand}
use Rattle.cert_text_parse.specs.Views.{line_at}
use Rattle.cert_check_lines_spec.specs.LineRules as lines
use Rattle.cert_check_lines_spec.specs.Parts.{Functions, Member, State}
use Rattle.cert_check_lines_spec.specs.Walk.{Going, Stopped, Takes}
use Rattle.cert_check_lines_spec.specs.Known.{is_known}
use Rattle.cert_check.specs.declared.fault.NamedFault.{NamedFault}
use Rattle.cert_check.specs.declared.fault.NamedFault.TheVariants.{Broken, Above}
use Rattle.cert_check.specs.declared.fault.Placed.{Placed}
use Rattle.cert_check.specs.declared.logs.OpenLine.{OpenLine}
use Rattle.cert_check.specs.declared.checker.Checker.{Checker}
use Rattle.cert_check.specs.declared.checker.Given.{Given}
use Rattle.cert_check.specs.Members.{AreMembers}
use Rattle.cert_check.specs.Walks.{Expecting, IsFaultName, IsSound}
use Rattle.cert_check.specs.Logs.{CanStep, IsAt}

-- ---- where it is

-- parts are of listed functions, and a log that is open takes steps
pub record IsReady (c : Checker) : Type 0 where
  pub walk : IsSound c.listed.now c.walk
  pub log : (current : OpenLine) → c.log ≡ Some current → CanStep current × (0 < length c.walk.parts.items)

-- the steps of the log that is open come first
abbrev pub steps_left : Option OpenLine → ℕ
steps_left None = 0
steps_left (Some current) = suc current.left

-- what the grammar expects
pub record Expects (c : Checker) (expected : List Expected) : Type 0 where
  pub others : List Expected
  pub walk : Expecting c.walk others
  pub is : expected ≡ replicate (steps_left c.log) AStep ++ others

-- the state of the definition, but after the last line
abbrev pub IsHere : (members : List Member) → (offsets : ℕ → ℕ) → Checker → State → Type 0
IsHere members offsets c s = IsAt c.listed.now members offsets c.walk c.log s

-- the line can be the next
pub record IsNextLine (c : Checker) (line : Line) : Type 0 where
  pub ready : IsReady c
  pub expected : Expected
  pub others : List Expected
  pub expects : Expects c (expected ∷ others)
  pub allowed : can_stand expected line ≡ true

-- the line that is given
abbrev pub given_line : Given → Line
given_line given = line_at given.line.now given.literals.now given.hints.now

-- ---- a line

-- what is wrong at a place, at the line of another or of the same
abbrev pub StopsAt : Functions → (members : List Member) → (offsets : ℕ → ℕ) → (old : Checker) → State → Line → (place at : ℕ) → NamedFault → Type 0
StopsAt fs members offsets old s line place at (Broken function rule) =
    (name : List ℕ) × IsFaultName old.listed.now line place function name × Takes fs members is_known (Going (offsets place) s) line (Stopped (offsets at) name (lines.Breaks rule))
StopsAt fs members offsets old s line place at (Above q) =
    (name : List ℕ) × Takes fs members is_known (Going (offsets place) s) line (Stopped (offsets at) name (lines.Above q))

-- the line, which has the place, breaks no rule and leaves the checker there, unless it is the last; or this is what is
-- wrong, and at which place
abbrev pub Leads : Functions → (members : List Member) → (offsets : ℕ → ℕ) → (old now : Checker) → State → Line → (place : ℕ) → Result (Unit {0}) (Refusal Placed) → Type 0
Leads fs members offsets old now s line place (Ok done) =
    (next : State) × Takes fs members is_known (Going (offsets place) s) line (Going (offsets place + length (line_text line)) next)
    × ((line ≡ End) ⊎ IsHere members offsets now next)
Leads fs members offsets old now s line place (Err (Fault broken)) = StopsAt fs members offsets old s line place broken.place broken.fault
Leads fs members offsets old now s line place (Err NoMemory) = Unit {0}

-- the log that is open began before
abbrev pub IsBegunBefore : (place : ℕ) → Checker → Type 0
IsBegunBefore place c = (current : OpenLine) → c.log ≡ Some current → current.place < place

-- a fault is at a place before
abbrev pub IsFaultBefore : (place : ℕ) → Result (Unit {0}) (Refusal Placed) → Type 0
IsFaultBefore place (Err (Fault broken)) = broken.place < place
IsFaultBefore place other = Unit {0}

pub record Goes (old now : Checker) (line : Line) (place : ℕ) (result : Result (Unit {0}) (Refusal Placed)) : Type 0 where
  pub listed : now.listed ≡ old.listed
  pub ready : OnOk result (IsReady now)
  pub follows : OnOk result ((e : Expected) (others : List Expected) → Expects old (e ∷ others) → can_stand e line ≡ true → (line ≡ End) ⊎ Expects now (after e line ++ others))
  pub begun : (n : ℕ) → place < n → IsBegunBefore n old → OnOk result (IsBegunBefore n now)
  pub within : (n : ℕ) → place < n → IsBegunBefore n old → IsFaultBefore n result
  -- the lines' places are those of the log's line too
  pub leads : (fs : Functions) (members : List Member) (offsets : ℕ → ℕ) → AreMembers old.listed.now members → (s : State) → IsHere members offsets old s
      → Leads fs members offsets old now s line place result

-- nothing was given
pub record IsNew (c : Checker) : Type 0 where
  pub parts : c.walk.parts.items ≡ []
  pub log : c.log ≡ None
