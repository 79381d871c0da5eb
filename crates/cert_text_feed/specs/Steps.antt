-- What the steps of a feed give.
use Rattle.std.specs.Prelude.{◌≡◌, ℕ, ◌+◌, ◌-◌, ◌<◌, ◌≤◌, true, List, [], ◌∷◌, ◌++◌, length, take, Option, Some, None, Result, Ok, Err, ◌⊎◌}
use Rattle.std.specs.declared.alloc.AllocError.{AllocError}
use Rattle.tv_limits.specs.declared.TheConstants.{MAX_CERTIFICATE_BYTES}
use Rattle.cert_text_spec.specs.Certificates as spec
use Rattle.cert_text_laws.specs.Readers.{given, refused}
use Rattle.cert_text_laws.specs.Lines.{read_line}
use Rattle.attempt.specs.declared.refusal.Refusal.{Refusal}
use Rattle.attempt.specs.declared.refusal.Refusal.TheVariants.{Fault, NoMemory}
use Rattle.cert_text_parse.specs.declared.keywords.Expected.{Expected}
use Rattle.cert_text_parse.specs.declared.lines.Line.{Line}
use Rattle.cert_text_parse.specs.declared.lines.Logs.{Logs}
use Rattle.cert_text_parse.specs.Keywords.{expected_of}
use Rattle.cert_text_parse.specs.Views.{line_at, line_of, literals_in, hints_in}
use Rattle.cert_text.specs.declared.stack.Group.{Group}
use Rattle.cert_text.specs.Stack.{stack_of}
use Rattle.cert_text_feed.specs.declared.faults.FeedFault.{FeedFault}
use Rattle.cert_text_feed.specs.declared.faults.FeedFault.TheVariants.{TooLong}
use Rattle.cert_text_feed.specs.declared.feed.TextLine.{TextLine}
use Rattle.cert_text_feed.specs.Readings.{is_open}
use Rattle.cert_text_feed.specs.Feeds.{Progress}

-- no literals and no hints
pub record IsEmpty (logs : Logs) : Type 0 where
  pub literals : logs.literals.items ≡ []
  pub hints : logs.hints.items ≡ []

-- the bytes up to the first line feed, and it; none where there is none
abbrev pub IsLineEnd : List ℕ → Option ℕ → Type 0
IsLineEnd bytes None = is_open bytes ≡ true
IsLineEnd bytes (Some n) = (front : List ℕ) × (take n bytes ≡ front ++ 10 ∷ []) × (is_open front ≡ true) × (n ≤ length bytes)

-- what is expected first
abbrev pub IsFirst : List Group → Option Expected → Type 0
IsFirst groups None = stack_of groups ≡ []
IsFirst groups (Some e) = (others : List spec.Expected) × (stack_of groups ≡ expected_of e ∷ others)

-- a line where this is expected, with its literals and hints; or the offset of the wrong byte
pub record IsParsed (e : spec.Expected) (text : List ℕ) (logs : Logs) (line : Line) : Type 0 where
  pub left : List ℕ
  pub read : read_line e text ≡ given (line_at line logs.literals.items logs.hints.items) left
  pub literals : length logs.literals.items ≡ literals_in line
  pub hints : length logs.hints.items ≡ hints_in line

pub record IsAmiss (e : spec.Expected) (text : List ℕ) (offset : ℕ) : Type 0 where
  pub left : List ℕ
  pub read : read_line e text ≡ refused left
  pub sum : offset + length left ≡ length text

abbrev pub Parses : spec.Expected → (text : List ℕ) → Logs → Result Line (Refusal ℕ) → Type 0
Parses e text logs (Ok line) = IsParsed e text logs line
Parses e text logs (Err NoMemory) = Unit {0}
Parses e text logs (Err (Fault offset)) = IsAmiss e text offset

-- the offset of the wrong byte, if one is wrong
abbrev pub Misses : spec.Expected → (text : List ℕ) → Result ℕ AllocError → Type 0
Misses e text (Ok offset) = (left : List ℕ) → read_line e text ≡ refused left → offset + length left ≡ length text
Misses e text (Err error) = Unit {0}

-- these are expected in place of the first; out of memory nothing is changed
abbrev pub Replaces : List spec.Expected → (old new : List Group) → Result (Unit {0}) AllocError → Type 0
Replaces first old new (Ok u) = (e : spec.Expected) (others : List spec.Expected) → stack_of old ≡ e ∷ others → stack_of new ≡ first ++ others
Replaces first old new (Err error) = stack_of new ≡ stack_of old

-- ---- a line that has ended

-- it was parsed where it is expected first, and what is expected after it stands in its place
pub record IsTaken (text : List ℕ) (old new : List Group) (logs : Logs) (line : Line) : Type 0 where
  pub e : spec.Expected
  pub others : List spec.Expected
  pub was : stack_of old ≡ e ∷ others
  pub parsed : IsParsed e text logs line
  pub now : stack_of new ≡ spec.after e (line_of line) ++ others

-- no line is expected, or its byte at the offset is wrong
pub data IsBad (text : List ℕ) (old : List Group) (offset : ℕ) : Type 0 where
  nothing_more : stack_of old ≡ [] → offset ≡ 0 → IsBad text old offset
  is_amiss : (e : spec.Expected) (others : List spec.Expected) → stack_of old ≡ e ∷ others → IsAmiss e text offset → IsBad text old offset

abbrev pub Takes : (text : List ℕ) → (old new : List Group) → Logs → Result Line (Refusal ℕ) → Type 0
Takes text old new logs (Ok line) = IsTaken text old new logs line
Takes text old new logs (Err NoMemory) = stack_of new ≡ stack_of old
Takes text old new logs (Err (Fault offset)) = IsBad text old offset

-- the same, where the text is kept, and let go with the line
pub record IsGiven (start : ℕ) (text kept : List ℕ) (old new : List Group) (one : TextLine) : Type 0 where
  pub offset : one.offset ≡ start
  pub taken : IsTaken text old new one.logs one.line
  pub gone : kept ≡ []

abbrev pub Gives : (start : ℕ) → (text kept : List ℕ) → (old new : List Group) → Result TextLine (Refusal ℕ) → Type 0
Gives start text kept old new (Ok one) = IsGiven start text kept old new one
Gives start text kept old new (Err NoMemory) = (stack_of new ≡ stack_of old) × (kept ≡ text)
Gives start text kept old new (Err (Fault offset)) = IsBad text old offset

-- ---- after a fault

-- the fault of bytes after which so many more came: they may be too many now
abbrev pub IsLater : FeedFault → (taken more : ℕ) → FeedFault → Type 0
IsLater fault taken more later = ((later ≡ TooLong) × (MAX_CERTIFICATE_BYTES < taken + more)) ⊎ ((later ≡ fault) × (more ≤ MAX_CERTIFICATE_BYTES - taken))

-- the piece came, and this fault is kept
pub record Refuses (fault : FeedFault) (piece left : List ℕ) (old new : Progress) (later : FeedFault) : Type 0 where
  pub used : left ≡ []
  pub kept : new.fault ≡ Some later
  pub is : IsLater fault old.taken (length piece) later
  pub counted : old.taken + length piece ≤ MAX_CERTIFICATE_BYTES → new.taken ≡ old.taken + length piece
