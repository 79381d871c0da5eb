-- Certificates: which line can stand where, their spelling, and the fault of bytes that are none.
use Rattle.std.specs.Prelude.{◌≡◌, ℕ, ◌<◌, ◌≤◌, ◌-◌, nat_lt, Bool, true, false, List, [], ◌∷◌, ◌++◌, length, take, replicate, flat_map}
use Rattle.tv_limits.specs.declared.TheConstants.{NESTING_LIMIT}
use Rattle.cert_text_spec.specs.Derivation.{Derives}
use Rattle.cert_text_spec.specs.Lines.{Line, Header, Function, InlineBinary, InlineSource, Leaf, Case, RestrictBinary, RestrictSource, Split, Call, Relation, Log, LogStep, End, IsLine, line_text}

-- what is expected
pub data Expected : Type 0 where
  -- the version
  AHeader : Expected
  -- the parts of functions, and the end
  TheParts : Expected
  -- calls that are inlined in the binary, or in the source, and a proof
  BinaryInlines : Expected
  SourceInlines : Expected
  -- a proof, in which below its root so many nodes can be on a path
  AProof : (room : ℕ) → Expected
  ARelation : Expected
  ALog : Expected
  AStep : Expected

-- ---- what is expected after a line, where this can stand there

-- the rules: one with proofs after it needs room
abbrev pub is_rule : Line → (room : ℕ) → Bool
is_rule (Leaf logs) room = true
is_rule (Case test) room = nat_lt 0 room
is_rule (RestrictBinary p count) room = nat_lt 0 room
is_rule (RestrictSource p count) room = nat_lt 0 room
is_rule (Split p enter step relations) room = nat_lt 0 room
is_rule (Call p counts before after) room = nat_lt 0 room
is_rule line room = false

abbrev pub after_rule : Line → (room : ℕ) → List Expected
after_rule (Leaf logs) room = replicate logs ALog
after_rule (Case test) room = AProof (room - 1) ∷ AProof (room - 1) ∷ []
after_rule (RestrictBinary p count) room = ALog ∷ AProof (room - 1) ∷ []
after_rule (RestrictSource p count) room = ALog ∷ AProof (room - 1) ∷ []
after_rule (Split p enter step relations) room = replicate relations ARelation ++ (AProof (room - 1) ∷ AProof (room - 1) ∷ [])
after_rule (Call p counts before after) room =
    replicate before ARelation ++ (replicate after ARelation ++ (ALog ∷ ALog ∷ AProof (room - 1) ∷ AProof (room - 1) ∷ []))
after_rule line room = []

-- so many nodes can be on a path below the root
abbrev pub root_room : ℕ
root_room = NESTING_LIMIT - 1

abbrev pub is_binary_inline : Line → Bool
is_binary_inline (InlineBinary p) = true
is_binary_inline (InlineSource p) = true
is_binary_inline line = is_rule line root_room

abbrev pub is_source_inline : Line → Bool
is_source_inline (InlineSource p) = true
is_source_inline line = is_rule line root_room

abbrev pub after_inline : Line → List Expected
after_inline (InlineBinary p) = BinaryInlines ∷ []
after_inline (InlineSource p) = SourceInlines ∷ []
after_inline line = after_rule line root_room

abbrev pub is_part : Line → Bool
is_part (Function name stack) = true
is_part End = true
is_part line = false

abbrev pub after_part : Line → List Expected
after_part (Function name stack) = BinaryInlines ∷ TheParts ∷ []
after_part line = []

abbrev pub after_log : Line → List Expected
after_log (Log steps) = replicate steps AStep
after_log line = []

abbrev pub is_header : Line → Bool
is_header Header = true
is_header line = false

abbrev pub is_relation : Line → Bool
is_relation (Relation t) = true
is_relation line = false

abbrev pub is_log : Line → Bool
is_log (Log steps) = true
is_log line = false

abbrev pub is_step : Line → Bool
is_step (LogStep step) = true
is_step line = false

abbrev pub can_stand : Expected → Line → Bool
can_stand AHeader line = is_header line
can_stand TheParts line = is_part line
can_stand BinaryInlines line = is_binary_inline line
can_stand SourceInlines line = is_source_inline line
can_stand (AProof room) line = is_rule line room
can_stand ARelation line = is_relation line
can_stand ALog line = is_log line
can_stand AStep line = is_step line

abbrev pub after : Expected → Line → List Expected
after AHeader line = TheParts ∷ []
after TheParts line = after_part line
after BinaryInlines line = after_inline line
after SourceInlines line = after_inline line
after (AProof room) line = after_rule line room
after ARelation line = []
after ALog line = after_log line
after AStep line = []

pub record Fits (e : Expected) (line : Line) : Type 0 where
  pub stands : can_stand e line ≡ true
  pub is : IsLine line

-- ---- certificates

-- the bytes are a certificate of these lines
pub record IsCertificate (bytes : List ℕ) (lines : List Line) : Type 0 where
  pub derives : Derives Fits after (AHeader ∷ []) lines
  pub cut : bytes ≡ flat_map line_text lines

-- a certificate begins so
pub record Begins (bytes : List ℕ) : Type 0 where
  pub more : List ℕ
  pub lines : List Line
  pub certificate : IsCertificate (bytes ++ more) lines

-- the bytes are no certificate, and this is the length of their longest prefix that begins one
pub record IsFault (bytes : List ℕ) (offset : ℕ) : Type 0 where
  pub none : (lines : List Line) → IsCertificate bytes lines → ⊥
  pub inside : offset ≤ length bytes
  pub begins : Begins (take offset bytes)
  pub longest : (n : ℕ) → offset < n → n ≤ length bytes → Begins (take n bytes) → ⊥
