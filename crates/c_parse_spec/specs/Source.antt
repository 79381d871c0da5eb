-- Texts whose tokens are a unit, and the fault of a text whose tokens are none.
use Rattle.std.specs.Prelude.{◌≡◌, ℕ, List, length}
use Rattle.c_token_spec.specs.Lexical.{Placed, AreTokens}
use Rattle.c_syntax_spec.specs.Unit.{TranslationUnit}
use Rattle.c_parse_spec.specs.declared.ParseFaultKind.{ParseFaultKind}
use Rattle.c_parse_spec.specs.Faults.{IsUnit, IsFault, offset_of}

-- the text is a unit, and this is its tree
pub record HasTree (text : List ℕ) (unit : TranslationUnit) : Type 0 where
  pub tokens : List Placed
  pub lexes : AreTokens text tokens
  pub parses : IsUnit tokens unit

-- the text has tokens, and they are no unit: this is the first fault, at this offset
pub record IsParseFault (text : List ℕ) (kind : ParseFaultKind) (offset : ℕ) : Type 0 where
  pub tokens : List Placed
  pub lexes : AreTokens text tokens
  pub rest : List Placed
  pub fault : IsFault tokens kind rest
  pub there : offset ≡ offset_of (length text) rest
