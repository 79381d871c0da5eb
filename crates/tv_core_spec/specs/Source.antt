-- Why a text is no C source: its first fault.
use Rattle.std.specs.Prelude.{◌≡◌, ℕ, List, Err}
use Rattle.c_token_spec.specs.declared.token.TokenFaultKind.{TokenFaultKind}
use Rattle.c_token_spec.specs.Lexical.{IsTokenFault}
use Rattle.c_syntax_spec.specs.Unit.{TranslationUnit}
use Rattle.c_parse_spec.specs.declared.ParseFaultKind.{ParseFaultKind}
use Rattle.c_parse_spec.specs.Source.{HasTree, IsParseFault}
use Rattle.c_types_spec.specs.declared.LeftOut.TheVariants as left_out
use Rattle.c_types_spec.specs.declared.TypeFaultKind.{TypeFaultKind}
use Rattle.c_types_spec.specs.declared.TypeFaultKind.TheVariants.{LeftOut}
use Rattle.c_types_spec.specs.Core.{Typed}
use Rattle.c_types_spec.specs.Units.{typed}
use Rattle.c_parse_spec.specs.Initials.{DefinesIn, DefinesNothing}
use Rattle.validity_spec.specs.Source.{IsC}
use Rattle.report_text_spec.specs.declared.SourceKind.{SourceKind}
use Rattle.report_text_spec.specs.declared.SourceKind.TheVariants.{Token, Syntax, Typing}

-- a text is C, or is refused
pub data Source : Type 0 where
  Accepted : (unit : Typed) → Source
  -- for this reason, at this offset
  Refused : (kind : SourceKind) → (offset : ℕ) → Source

-- the verdict on a text: its first fault of tokens, else of the grammar, else its first definition within an initial value,
-- else its first fault of types; else it is C, and has a typed core
pub data CVerdict (text : List ℕ) : Source → Type 0 where
  no_tokens : (kind : TokenFaultKind) (offset : ℕ) → IsTokenFault text kind offset → CVerdict text (Refused (Token kind) offset)
  no_unit : (kind : ParseFaultKind) (offset : ℕ) → IsParseFault text kind offset → CVerdict text (Refused (Syntax kind) offset)
  hidden_definition : (tree : TranslationUnit) (offset : ℕ) → HasTree text tree → DefinesIn text offset
      → CVerdict text (Refused (Typing (LeftOut left_out.Struct)) offset)
  no_types : (tree : TranslationUnit) (kind : TypeFaultKind) (offset : ℕ) → HasTree text tree → DefinesNothing text
      → typed tree ≡ Err (kind, offset) → CVerdict text (Refused (Typing kind) offset)
  accepted : (unit : Typed) → IsC text unit → CVerdict text (Accepted unit)
