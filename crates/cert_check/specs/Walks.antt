-- What a line does to a walk along the lines of a certificate.
use Rattle.std.specs.Prelude.{◌≡◌, ◌⊎◌, ℕ, ◌+◌, ◌<◌, Bool, true, false, List, [], ◌∷◌, ◌++◌, length, Some, None, slice_get, Result, Ok, Err, OnOk}
use Rattle.std.specs.HashMap.{get}
use Rattle.term_core_spec.specs.Same.{same_variable}
use Rattle.cert_text_parse.specs.declared.lines.Line.{Line as CodeLine}
use Rattle.cert_text_parse.specs.declared.lines.Line.TheVariants as code
use Rattle.attempt.specs.declared.refusal.Refusal.{Refusal}
use Rattle.attempt.specs.declared.refusal.Refusal.TheVariants.{Fault, NoMemory}
use Rattle.cert_check.specs.declared.fault.NamedFault.{NamedFault}
use Rattle.cert_check.specs.declared.fault.PartFault.{PartFault}
use Rattle.cert_check.specs.declared.fault.Placed.{Placed}
use Rattle.cert_check.specs.declared.fault.NamedFault.TheVariants.{Broken, Above}
use Rattle.cert_check.specs.declared.fault.PartFault.TheVariants as part
use Rattle.cert_text_spec.specs.Lines.{Line, Function, End, line_text}
use Rattle.cert_text_spec.specs.Certificates.{Expected, AHeader, TheParts, BinaryInlines, after, can_stand}
use Rattle.cert_check_lines_spec.specs.Sites.{Part}
use Rattle.cert_check_lines_spec.specs.Jobs as spec
use Rattle.cert_check_lines_spec.specs.Jobs.{AtEntry}
use Rattle.cert_check_lines_spec.specs.LineRules as lines
use Rattle.cert_check_lines_spec.specs.LineRules.{Passes, Fails}
use Rattle.cert_check_lines_spec.specs.Parts.{Functions, Member, State, Between, Unfolding, Inside, unfolded, part_of}
use Rattle.cert_check_lines_spec.specs.Walk.{Going, Stopped, Takes}
use Rattle.cert_check_lines_spec.specs.Known.{is_known}
use Rattle.cert_check_spec.specs.declared.RuleWord.{RuleWord}
use Rattle.cert_check_spec.specs.declared.RuleWord.TheVariants as fault
use Rattle.cert_check.specs.declared.fault.Named.{Named}
use Rattle.cert_check.specs.declared.fault.Named.TheVariants as named
use Rattle.cert_check_frames.specs.declared.listed.Listed.{Listed}
use Rattle.cert_check.specs.declared.walk.Walk.{Walk}
use Rattle.cert_check_frames.specs.Listed.{frame_at}
use Rattle.cert_check.specs.Jobs.{jobs_of}
use Rattle.cert_check.specs.Members.{AreMembers, IsMemberOf}
use Rattle.cert_check.specs.Expectations.{AreOf, IsNext, AreAfter}
use Rattle.cert_check.specs.Steps.{IsKeptBy}
use Rattle.cert_check_frames.specs.Parts.{AreIndices, IsNamed, IsMissingAt}

-- ---- where a walk is

-- the members of these indices
pub data ArePicked (members : List Member) : List ℕ → List Member → Type 0 where
  no_pick : ArePicked members [] []
  one_pick : (k : ℕ) (f : Member) (others : List ℕ) (rest : List Member) → slice_get members k ≡ Some f → ArePicked members others rest
      → ArePicked members (k ∷ others) (f ∷ rest)

-- the part of the listed function of the last index has begun, after the parts of the others
pub record IsPart (codes : List Listed) (members : List Member) (walk : Walk) (function : Listed) (f : Member) (parts : List Member) : Type 0 where
  pub before : List ℕ
  pub index : ℕ
  pub split : walk.parts.items ≡ before ++ index ∷ []
  pub found : slice_get codes index ≡ Some function
  pub member : slice_get members index ≡ Some f
  pub picked : ArePicked members before parts

-- what is expected in it
abbrev pub walk_jobs : Walk → Listed → List spec.Job
walk_jobs walk function = jobs_of walk.bank (frame_at function) walk.jobs.items

-- the state of the definition, but after the last line
pub data IsState (codes : List Listed) (members : List Member) (walk : Walk) : State → Type 0 where
  between : walk.parts.items ≡ [] → IsState codes members walk (Between [])
  unfolding_part : (function : Listed) (f : Member) (parts : List Member) → IsPart codes members walk function f parts
      → walk_jobs walk function ≡ spec.Prove AtEntry f.listed.frame ∷ [] → IsState codes members walk (Unfolding parts f (unfolded f))
  inside : (function : Listed) (f : Member) (parts : List Member) → IsPart codes members walk function f parts
      → IsState codes members walk (Inside parts f (unfolded f) (walk_jobs walk function))

-- what the grammar expects there
pub data Expecting (walk : Walk) : List Expected → Type 0 where
  at_header : walk.parts.items ≡ [] → Expecting walk (AHeader ∷ [])
  at_first : walk.parts.items ≡ [] → Expecting walk (TheParts ∷ [])
  in_part : (expected : List Expected) → 0 < length walk.parts.items → AreOf expected walk.jobs.items → Expecting walk expected

-- a part of the function is kept in its bank
abbrev pub Keeps : Listed → Walk → Type 0
Keeps function walk = IsKeptBy function walk.bank (get same_variable walk.binary) (get same_variable walk.source) walk.jobs.items

-- parts are of listed functions, and the last is kept
pub record IsSound (codes : List Listed) (walk : Walk) : Type 0 where
  pub indices : AreIndices (length codes) walk.parts.items
  pub kept : (before : List ℕ) (k : ℕ) (function : Listed) → walk.parts.items ≡ before ++ k ∷ [] → slice_get codes k ≡ Some function → Keeps function walk

-- the line can be the next
pub record IsWalk (codes : List Listed) (walk : Walk) (line : Line) : Type 0 where
  pub sound : IsSound codes walk
  pub expected : Expected
  pub others : List Expected
  pub expecting : Expecting walk (expected ∷ others)
  pub allowed : can_stand expected line ≡ true

-- ---- faults

-- the function of this name is named, at the line of an index
abbrev pub IsFaultName : List Listed → Line → (index : ℕ) → Named → (name : List ℕ) → Type 0
IsFaultName codes line index (named.Listed k) name = IsNamed codes k name
IsFaultName codes line index (named.Line n) name = (n ≡ index) × (stack : ℕ) × (line ≡ Function name stack)

abbrev pub named_fault : (index : ℕ) → Refusal PartFault → Refusal NamedFault
named_fault index (Fault (part.Broken rule)) = Fault (Broken (named.Listed index) rule)
named_fault index (Fault (part.Above q)) = Fault (Above q)
named_fault index NoMemory = NoMemory

abbrev pub placed_fault : (place : ℕ) → Refusal NamedFault → Refusal Placed
placed_fault place (Fault broken) = Fault (record { place = place; fault = broken })
placed_fault place NoMemory = NoMemory

-- ---- a line that is no log and no step

-- the line, which is of an index and begins at the offset, breaks no rule and leaves the walk there, unless it is the last;
-- or this is what it breaks
abbrev pub StepsTo : List Listed → Functions → (members : List Member) → (at : ℕ) → (now : Walk) → State → Line → (index : ℕ) → Result (Unit {0}) (Refusal NamedFault) → Type 0
StepsTo codes fs members at now s line index (Ok done) =
    (next : State) × Takes fs members is_known (Going at s) line (Going (at + length (line_text line)) next) × ((line ≡ End) ⊎ IsState codes members now next)
StepsTo codes fs members at now s line index (Err (Fault (Broken function rule))) =
    (name : List ℕ) × IsFaultName codes line index function name × Takes fs members is_known (Going at s) line (Stopped at name (lines.Breaks rule))
StepsTo codes fs members at now s line index (Err (Fault (Above q))) = (name : List ℕ) × Takes fs members is_known (Going at s) line (Stopped at name (lines.Above q))
StepsTo codes fs members at now s line index (Err NoMemory) = Unit {0}

-- unless it was the last line, this is expected after it
abbrev pub ExpectsAfter : (old now : Walk) → Line → Type 0
ExpectsAfter old now line =
    (e : Expected) (others : List Expected) → Expecting old (e ∷ others) → can_stand e line ≡ true → (line ≡ End) ⊎ Expecting now (after e line ++ others)

pub record Goes (codes : List Listed) (old now : Walk) (line : Line) (index : ℕ) (result : Result (Unit {0}) (Refusal NamedFault)) : Type 0 where
  pub sound : OnOk result (IsSound codes now)
  pub follows : OnOk result (ExpectsAfter old now line)
  pub step : (fs : Functions) (members : List Member) (at : ℕ) → AreMembers codes members → (s : State) → IsState codes members old s
      → StepsTo codes fs members at now s line index result

-- ---- inside a part

-- a line that is neither the version, nor begins a part, nor is the last
abbrev pub is_inside : CodeLine → Bool
is_inside code.Header = false
is_inside (code.Function f) = false
is_inside code.End = false
is_inside line = true

abbrev pub IsInside : CodeLine → Type 0
IsInside line = is_inside line ≡ true

-- a line that is no log, and no step of one
abbrev pub is_plain : CodeLine → Bool
is_plain (code.Log steps) = false
is_plain (code.Step literals hints) = false
is_plain line = true

abbrev pub IsPlain : CodeLine → Type 0
IsPlain line = is_plain line ≡ true

-- the part of the function of this index is kept, and the line can be the next
pub record IsNextAt (codes : List Listed) (walk : Walk) (index : ℕ) (line : Line) : Type 0 where
  pub kept : (function : Listed) → slice_get codes index ≡ Some function → Keeps function walk
  pub next : IsNext walk.jobs.items line

-- a line breaks the rule in a part; one of a rule that isn't checked yet breaks none else
abbrev pub Breaks : Part → (at : ℕ) → List spec.Job → Line → RuleWord → Type 0
Breaks p at before line word =
    ((is_known line ≡ true) × Fails p at before line at (lines.Breaks word)) ⊎ ((is_known line ≡ false) × (word ≡ fault.Later))

-- in the part of the function of an index
abbrev pub ComesAt : Part → (at : ℕ) → (before after : List spec.Job) → Line → (index : ℕ) → Result (Unit {0}) (Refusal NamedFault) → Type 0
ComesAt p at before after line index (Ok done) = (is_known line ≡ true) × Passes p at before line after
ComesAt p at before after line index (Err (Fault (Broken (named.Listed k) rule))) = (k ≡ index) × Breaks p at before line rule
ComesAt p at before after line index (Err (Fault (Broken (named.Line n) rule))) = ⊥
ComesAt p at before after line index (Err (Fault (Above q))) = (is_known line ≡ true) × Fails p at before line at (lines.Above q)
ComesAt p at before after line index (Err NoMemory) = Unit {0}

pub record IsInPart (function : Listed) (old now : Walk) (line : Line) (index : ℕ) (result : Result (Unit {0}) (Refusal NamedFault)) : Type 0 where
  pub step : (fs : Functions) (parts : List Member) (f : Member) (at : ℕ) → IsMemberOf function f
      → ComesAt (part_of parts f (unfolded f)) at (walk_jobs old function) (walk_jobs now function) line index result
  pub kept : OnOk result (Keeps function now)
  pub follows : OnOk result (AreAfter old.jobs.items line now.jobs.items)
  pub parts : now.parts ≡ old.parts

abbrev pub GoesInside : List Listed → (old now : Walk) → (index : ℕ) → Line → Result (Unit {0}) (Refusal NamedFault) → Type 0
GoesInside codes old now index line result = (function : Listed) → slice_get codes index ≡ Some function → IsInPart function old now line index result

-- ---- parts

-- a proof of the function's frame is expected, and nothing else; the parts are not changed
pub record IsOpened (function : Listed) (old now : Walk) : Type 0 where
  pub parts : now.parts ≡ old.parts
  pub kept : Keeps function now
  pub follows : AreOf (BinaryInlines ∷ TheParts ∷ []) now.jobs.items
  pub jobs : walk_jobs now function ≡ spec.Prove AtEntry (frame_at function) ∷ []

-- the part of the function of this index has begun, or its stack is another
abbrev pub BeginsAt : Listed → (old now : Walk) → (index stack : ℕ) → Result (Unit {0}) (Refusal NamedFault) → Type 0
BeginsAt function old now index stack (Ok done) =
    (opened : Walk) × IsOpened function old opened × (function.stack ≡ stack) × (now.parts.items ≡ old.parts.items ++ index ∷ []) × (now ≡ record opened { parts = now.parts })
BeginsAt function old now index stack (Err (Fault (Broken (named.Listed k) fault.Stack))) = (k ≡ index) × (function.stack ≡ stack → ⊥)
BeginsAt function old now index stack (Err (Fault (Broken other rule))) = ⊥
BeginsAt function old now index stack (Err (Fault (Above q))) = ⊥
BeginsAt function old now index stack (Err NoMemory) = Unit {0}

abbrev pub Begins : List Listed → (old now : Walk) → (index stack : ℕ) → Result (Unit {0}) (Refusal NamedFault) → Type 0
Begins codes old now index stack result = (function : Listed) → slice_get codes index ≡ Some function → BeginsAt function old now index stack result

-- each listed function has a part, or the first that has none is named
abbrev pub Ends : List Listed → (parts : List ℕ) → Result (Unit {0}) (Refusal NamedFault) → Type 0
Ends codes parts (Ok done) = IsMissingAt codes parts None
Ends codes parts (Err (Fault (Broken (named.Listed k) fault.Missing))) = IsMissingAt codes parts (Some k)
Ends codes parts (Err (Fault (Broken other rule))) = ⊥
Ends codes parts (Err (Fault (Above q))) = ⊥
Ends codes parts (Err NoMemory) = ⊥
