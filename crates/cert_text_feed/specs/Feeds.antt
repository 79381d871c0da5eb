-- What each call of a feed gives.
use Rattle.std.specs.Prelude.{◌≡◌, ℕ, ◌<◌, ◌≤◌, List, [], ◌∷◌, ◌++◌, length, Option, Some, None, Result, Ok, Err, ◌⊎◌}
use Rattle.tv_limits.specs.declared.TheConstants.{MAX_CERTIFICATE_BYTES}
use Rattle.cert_text_spec.specs.Lines as spec
use Rattle.cert_text_spec.specs.Certificates.{Expected, IsCertificate, IsFault}
use Rattle.cert_text_parse.specs.Views.{line_at, literals_in, hints_in}
use Rattle.attempt.specs.declared.refusal.Refusal.{Refusal}
use Rattle.attempt.specs.declared.refusal.Refusal.TheVariants.{Fault, NoMemory}
use Rattle.cert_text_feed.specs.declared.faults.FeedFault.{FeedFault}
use Rattle.cert_text_feed.specs.declared.faults.FeedFault.TheVariants.{TooLong, Refused}
use Rattle.cert_text_feed.specs.declared.feed.TextLine.{TextLine}
use Rattle.cert_text_feed.specs.Readings.{text_of, IsReading, IsWrong}

-- what a feed is in
pub record Progress : Type 0 where
  -- what is expected after the lines so far
  pub expected : List Expected
  -- the bytes of a line that has not ended
  pub rest : List ℕ
  -- how many bytes came
  pub taken : ℕ
  -- the fault that was found
  pub fault : Option FeedFault

-- all bytes that came were read
pub record IsGoing (bytes : List ℕ) (lines : List spec.Line) (p : Progress) : Type 0 where
  pub counted : p.taken ≡ length bytes
  pub within : length bytes ≤ MAX_CERTIFICATE_BYTES
  pub reading : IsReading bytes lines p.expected p.rest

-- a wrong one came
pub record IsRefused (bytes : List ℕ) (offset : ℕ) (p : Progress) : Type 0 where
  pub counted : p.taken ≡ length bytes
  pub within : length bytes ≤ MAX_CERTIFICATE_BYTES
  pub wrong : IsWrong bytes offset

abbrev pub IsAt : Option FeedFault → List ℕ → List spec.Line → Progress → Type 0
IsAt None bytes lines p = IsGoing bytes lines p
IsAt (Some TooLong) bytes lines p = MAX_CERTIFICATE_BYTES < length bytes
IsAt (Some (Refused offset)) bytes lines p = IsRefused bytes offset p

-- a feed to which these bytes came, in any pieces, and which has given these lines
abbrev pub IsFed : (bytes : List ℕ) → (lines : List spec.Line) → Progress → Type 0
IsFed bytes lines p = IsAt p.fault bytes lines p

-- ---- a piece

-- a line with its literals and hints
abbrev pub line_in : TextLine → spec.Line
line_in one = line_at one.line one.logs.literals.items one.logs.hints.items

-- the literals and hints are the line's, and it begins after these lines
pub record IsPlaced (lines : List spec.Line) (one : TextLine) : Type 0 where
  pub offset : one.offset ≡ length (text_of lines)
  pub literals : length one.logs.literals.items ≡ literals_in one.line
  pub hints : length one.logs.hints.items ≡ hints_in one.line

-- a line ended in the piece, of which the bytes after it are left
pub record GivesLine (bytes : List ℕ) (lines : List spec.Line) (one : TextLine) (piece left : List ℕ) (new : Progress) : Type 0 where
  pub front : List ℕ
  pub cut : piece ≡ front ++ left
  pub some : 0 < length front
  pub placed : IsPlaced lines one
  pub fed : IsFed (bytes ++ front) (lines ++ line_in one ∷ []) new
  pub going : new.fault ≡ None
  pub ended : new.rest ≡ []

-- the whole piece came, and with it the feed is in this
pub record TakesAll (bytes : List ℕ) (lines : List spec.Line) (fault : Option FeedFault) (piece left : List ℕ) (new : Progress) : Type 0 where
  pub used : left ≡ []
  pub fed : IsFed (bytes ++ piece) lines new
  pub is : new.fault ≡ fault

abbrev pub Feeds : (bytes : List ℕ) → (lines : List spec.Line) → (piece left : List ℕ) → (old new : Progress) → Result (Option TextLine) (Refusal FeedFault) → Type 0
Feeds bytes lines piece left old new (Ok (Some one)) = GivesLine bytes lines one piece left new
Feeds bytes lines piece left old new (Ok None) = TakesAll bytes lines None piece left new
Feeds bytes lines piece left old new (Err (Fault fault)) = TakesAll bytes lines (Some fault) piece left new
Feeds bytes lines piece left old new (Err NoMemory) = (left ≡ piece) × (new ≡ old)

-- after a fault it is answered again, or that the bytes are too many by now
abbrev pub IsAgain : FeedFault → Result (Option TextLine) (Refusal FeedFault) → Type 0
IsAgain fault (Ok one) = ⊥
IsAgain fault (Err NoMemory) = ⊥
IsAgain fault (Err (Fault other)) = (other ≡ fault) ⊎ (other ≡ TooLong)

-- ---- the end

-- what the bytes are, if no more come: the limit first, then what `cert_text` says of them
abbrev pub IsEnd : (bytes : List ℕ) → (lines : List spec.Line) → Result (Unit {0}) (Refusal FeedFault) → Type 0
IsEnd bytes lines (Ok u) = (length bytes ≤ MAX_CERTIFICATE_BYTES) × IsCertificate bytes lines
IsEnd bytes lines (Err NoMemory) = Unit {0}
IsEnd bytes lines (Err (Fault TooLong)) = MAX_CERTIFICATE_BYTES < length bytes
IsEnd bytes lines (Err (Fault (Refused offset))) = (length bytes ≤ MAX_CERTIFICATE_BYTES) × IsFault bytes offset
