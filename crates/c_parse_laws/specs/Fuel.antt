-- The parsers with fuel: each passes one less to those of its parts.
use Rattle.std.specs.Prelude.{ℕ, zero, suc, List, Err}
use Rattle.c_token_spec.specs.Lexical.{Placed}
use Rattle.c_parse_spec.specs.declared.Role.{Role}
use Rattle.exact_read.specs.Reading.{LimitExceeded, Parser}
use Rattle.c_parse_laws.specs.Parsers.{Parsers, read_cast, read_unary, read_conditional}
use Rattle.c_parse_laws.specs.Types.{read_specifiers, read_type_name}

abbrev pub limit_exceeded : {X : Type 0} → Parser Placed Role X
limit_exceeded tokens = Err (LimitExceeded, tokens)

-- with one more
abbrev pub around : (names : List (List ℕ)) → Parsers → Parsers
around names inner = record { cast = read_cast names inner; unary = read_unary names inner; conditional = read_conditional inner; specifiers = read_specifiers names inner; type_name = read_type_name names inner }

unfoldable pub parsers : (names : List (List ℕ)) → (fuel : ℕ) → Parsers
parsers names zero = record { cast = λ depth count. limit_exceeded; unary = λ depth count. limit_exceeded; conditional = λ depth count. limit_exceeded; specifiers = λ depth counting. limit_exceeded; type_name = λ depth counting. limit_exceeded }
parsers names (suc fuel) = around names (parsers names fuel)
