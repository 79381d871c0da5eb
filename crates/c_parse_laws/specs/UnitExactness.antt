-- The laws of units: their parser is exact, and what it refuses is the one fault of tokens that are no unit.
use Rattle.std.specs.Prelude.{◌≡◌, List, Ok, Err}
use Rattle.c_token_spec.specs.Lexical.{Placed}
use Rattle.c_syntax_spec.specs.Unit.{TranslationUnit}
use Rattle.c_parse_spec.specs.declared.Role.{Role}
use Rattle.c_parse_spec.specs.Faults.{IsUnit, fault_kind, IsFault}
use Rattle.c_parse_spec.specs.Leaves.{marks}
use Rattle.c_parse_spec.specs.Units.{Unit}
use Rattle.exact_read.specs.Reading.{LimitExceeded, Wrong}
use Rattle.exact_read.specs.Whole.{IsWrongAt, IsLimitExceeded}
use Rattle.c_parse_laws.specs.Units.{read_unit}
use Rattle.c_parse_spec.specs.declared.ParseFaultKind.{ParseFaultKind}
use Rattle.c_parse_spec.specs.declared.ParseFaultKind.TheVariants.{Depth}

pub record UnitExact : Type 0 where
  -- what is read is a unit with this tree
  pub found : (tokens : List Placed) (unit : TranslationUnit) → read_unit tokens ≡ Ok unit → IsUnit tokens unit
  -- what is a unit is read
  pub only : (tokens : List Placed) (unit : TranslationUnit) → IsUnit tokens unit → read_unit tokens ≡ Ok unit
  -- a token is wrong: it is the first with which the tokens so far begin no unit
  pub wrong : (tokens : List Placed) (role : Role) (rest : List Placed) → read_unit tokens ≡ Err (Wrong role, rest) → IsWrongAt marks Unit tokens rest
  -- where it answers that a limit is exceeded, one is, in a unit that the tokens up to there begin
  pub exceeded : (tokens rest : List Placed) → read_unit tokens ≡ Err (LimitExceeded, rest) → IsLimitExceeded marks Unit tokens rest

pub record UnitReports : Type 0 where
  -- a token that is called wrong by a role is a fault of the kind that the role and the token determine
  pub wrong : (tokens : List Placed) (role : Role) (rest : List Placed) → read_unit tokens ≡ Err (Wrong role, rest) → IsFault tokens (fault_kind role rest) rest
  -- a token at which too much is called open is a fault of depth
  pub exceeded : (tokens rest : List Placed) → read_unit tokens ≡ Err (LimitExceeded, rest) → IsFault tokens Depth rest
  -- tokens have one fault alone
  pub unique : (tokens : List Placed) (one two : ParseFaultKind) (left right : List Placed) → IsFault tokens one left → IsFault tokens two right → (one ≡ two) × (left ≡ right)
  -- tokens that are a unit have none
  pub none : (tokens : List Placed) (unit : TranslationUnit) (kind : ParseFaultKind) (rest : List Placed) → IsUnit tokens unit → IsFault tokens kind rest → ⊥
