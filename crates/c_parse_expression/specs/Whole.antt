-- The reference parsers of expressions and types, with fuel that suffices for any.
use Rattle.std.specs.Prelude.{ℕ}
use Rattle.c_token_spec.specs.declared.token.Punctuator.TheVariants as punctuator
use Rattle.c_token_spec.specs.Lexical.{Placed}
use Rattle.c_syntax_spec.specs.Expression as tree
use Rattle.c_parse_spec.specs.declared.Role.{Role}
use Rattle.exact_read.specs.Reading.{Parser}
use Rattle.c_parse_spec.specs.Limits.{expression_fuel}
use Rattle.c_parse_laws.specs.Classes.{is_mark}
use Rattle.c_parse_laws.specs.Parsers.{Parsers, following, choose, read_open, read_bracketed}
use Rattle.c_parse_laws.specs.Fuel.{parsers}
use Rattle.c_parse_token.specs.declared.names.TypedefNames.{TypedefNames}
use Rattle.c_parse_token.specs.Lists.{names_of}

-- the reference parsers of parts, where these typedef names are in scope
abbrev pub expressions : TypedefNames → Parsers
expressions names = parsers (names_of names) expression_fuel

-- any unary expression (6.5.3)
abbrev pub read_any_unary : Parsers → (depth count : ℕ) → Parser Placed Role tree.Expression
read_any_unary inner depth count = choose (is_mark punctuator.LeftParenthesis) (following (read_open depth count) (λ offset. read_bracketed inner depth count offset)) (inner.unary depth count)
