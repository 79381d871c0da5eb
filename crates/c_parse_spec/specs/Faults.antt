-- The first fault of tokens that are no unit: its token, and its kind.
use Rattle.std.specs.Prelude.{◌≡◌, ℕ, Bool, true, false, if◌then◌else◌, List, [], ◌∷◌, ◌++◌, Option, Some, None}
use Rattle.c_token_spec.specs.declared.token.Keyword.{Keyword}
use Rattle.c_token_spec.specs.declared.token.Keyword.TheVariants as keyword
use Rattle.c_token_spec.specs.declared.token.Punctuator.{Punctuator}
use Rattle.c_token_spec.specs.declared.token.Punctuator.TheVariants as punctuator
use Rattle.c_token_spec.specs.Lexical.{Placed, Token, Word, Mark}
use Rattle.c_syntax_spec.specs.Unit.{TranslationUnit}
use Rattle.c_parse_spec.specs.declared.LeftOut.{LeftOut}
use Rattle.c_parse_spec.specs.declared.LeftOut.TheVariants as left_out
use Rattle.c_parse_spec.specs.declared.ParseFaultKind.{ParseFaultKind}
use Rattle.c_parse_spec.specs.declared.ParseFaultKind.TheVariants.{Unexpected, LeftOut as LeftOutKind, Depth}
use Rattle.exact_read.specs.Expected.{Asked}
use Rattle.exact_read.specs.Whole.{IsWhole, IsWrongAt, IsLimitExceeded}
use Rattle.c_parse_spec.specs.declared.Role.{Role}
use Rattle.c_parse_spec.specs.declared.Role.TheVariants.{DeclaredName, MemberEnd, OperandEnd, CallEnd, StatementEnd, NameStatementEnd, CallStatementEnd}
use Rattle.c_parse_spec.specs.Leaves.{marks, roles}
use Rattle.c_parse_spec.specs.Units.{Unit}

-- the tokens are a unit with this tree, within the limits
abbrev pub IsUnit : (tokens : List Placed) → TranslationUnit → Type 0
IsUnit tokens unit = IsWhole marks Unit tokens unit

-- the keywords that the grammar lacks
abbrev pub left_out_keyword : Keyword → Option LeftOut
left_out_keyword keyword.Goto = Some left_out.Goto
left_out_keyword keyword.Union = Some left_out.Union
left_out_keyword keyword.Float = Some left_out.Float
left_out_keyword keyword.Double = Some left_out.Float
left_out_keyword keyword.Complex = Some left_out.Float
left_out_keyword keyword.Volatile = Some left_out.Volatile
left_out_keyword keyword.Asm = Some left_out.Asm
left_out_keyword keyword.Boolean = Some left_out.Bool
left_out_keyword keyword.Attribute = Some left_out.Attribute
left_out_keyword keyword.Auto = Some left_out.Keyword
left_out_keyword keyword.Register = Some left_out.Keyword
left_out_keyword keyword.Restrict = Some left_out.Keyword
left_out_keyword keyword.Alignas = Some left_out.Keyword
left_out_keyword keyword.Alignof = Some left_out.Keyword
left_out_keyword keyword.Atomic = Some left_out.Keyword
left_out_keyword keyword.Generic = Some left_out.Keyword
left_out_keyword keyword.Imaginary = Some left_out.Keyword
left_out_keyword keyword.Noreturn = Some left_out.Keyword
left_out_keyword keyword.StaticAssert = Some left_out.Keyword
left_out_keyword keyword.ThreadLocal = Some left_out.Keyword
left_out_keyword other = None

-- an operator of expressions
abbrev pub is_operator : Punctuator → Bool
is_operator punctuator.Ellipsis = false
is_operator punctuator.RightParenthesis = false
is_operator punctuator.RightBracket = false
is_operator punctuator.LeftBrace = false
is_operator punctuator.RightBrace = false
is_operator punctuator.Colon = false
is_operator punctuator.Semicolon = false
is_operator punctuator.Comma = false
is_operator other = true

-- what is left out where this role is expected, by the token that occurs instead
abbrev pub left_out_by_role : Role → Token → Option LeftOut
left_out_by_role DeclaredName (Mark punctuator.LeftParenthesis) = Some left_out.FunctionPointer
left_out_by_role MemberEnd (Mark punctuator.Colon) = Some left_out.BitField
left_out_by_role OperandEnd (Mark punctuator.LeftParenthesis) = Some left_out.Call
left_out_by_role StatementEnd (Mark punctuator.LeftParenthesis) = Some left_out.Call
left_out_by_role StatementEnd (Mark punctuator.Comma) = Some left_out.Comma
left_out_by_role NameStatementEnd (Mark punctuator.Colon) = Some left_out.Goto
left_out_by_role NameStatementEnd (Mark punctuator.Comma) = Some left_out.Comma
left_out_by_role CallEnd (Word keyword.Sizeof) = Some left_out.Call
left_out_by_role CallEnd (Mark mark) = if is_operator mark then Some left_out.Call else None
left_out_by_role CallStatementEnd (Word keyword.Sizeof) = Some left_out.Call
left_out_by_role CallStatementEnd (Mark punctuator.Comma) = Some left_out.Comma
left_out_by_role CallStatementEnd (Mark mark) = if is_operator mark then Some left_out.Call else None
left_out_by_role role token = None

abbrev pub left_out_token : Token → Option LeftOut
left_out_token (Word word) = left_out_keyword word
left_out_token (Mark punctuator.Ellipsis) = Some left_out.Variadic
left_out_token other = None

abbrev pub kind_of : Option LeftOut → ParseFaultKind
kind_of None = Unexpected
kind_of (Some part) = LeftOutKind part

-- the kind by the token alone first, and then by the expected role
abbrev pub first_of : Option LeftOut → Option LeftOut → Option LeftOut
first_of (Some part) other = Some part
first_of None other = other

-- the kind of a fault at the first of these tokens, or at the end, where this is expected
abbrev pub fault_kind : Role → List Placed → ParseFaultKind
fault_kind role [] = Unexpected
fault_kind role (token ∷ rest) = kind_of (first_of (left_out_token token.token) (left_out_by_role role token.token))

-- the offset of the first of these tokens, or of the end
abbrev pub offset_of : (end : ℕ) → List Placed → ℕ
offset_of end [] = end
offset_of end (token ∷ rest) = token.offset

-- Tokens that are no unit have this fault at the first of `rest`. Where the tokens up to it and with it are a
-- prefix of no unit, its kind is given by it and by the role that is expected in its place. Where they are a prefix
-- of a unit that exceeds a limit at it, its kind is `Depth`.
pub data IsFault (tokens : List Placed) : ParseFaultKind → (rest : List Placed) → Type 0 where
  wrong : (prefix rest : List Placed) (role : Role) → IsWrongAt marks Unit tokens rest → tokens ≡ prefix ++ rest → Asked marks roles Unit prefix role → IsFault tokens (fault_kind role rest) rest
  exceeded : (rest : List Placed) → IsLimitExceeded marks Unit tokens rest → IsFault tokens Depth rest
