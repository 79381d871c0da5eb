-- The body of a function, and the external declaration that it is of.
use Rattle.std.proofs.Common.{◌≡◌, ℕ, List, sym, Ok}
use Rattle.c_token_spec.specs.declared.token.Punctuator.TheVariants as punctuator
use Rattle.c_token_spec.specs.Lexical.{Placed}
use Rattle.c_syntax_spec.specs.Expression as tree
use Rattle.c_syntax_spec.specs.Unit as unit
use Rattle.c_parse_spec.specs.declared.Role.TheVariants.{Nothing}
use Rattle.c_parse_spec.specs.Leaves.{plain, opens}
use Rattle.exact_read.specs.Grammar.{bind, read_then}
use Rattle.exact_read.proofs.Loops.{bind-bind}
use Rattle.c_parse_laws.specs.Classes.{mark_offset}
use Rattle.c_parse_laws.specs.Parsers.{token}
use Rattle.c_parse_laws.specs.Statements.{read_parts, read_statement}
use Rattle.c_parse_spec.specs.Limits.{statement_fuel}
use Rattle.c_parse_laws.specs.Units.{Read, expressions, read_body}
use Rattle.c_parse.specs.Following.{read_block}

pub body-same : (names : List (List ℕ)) (specifiers : tree.Specifiers) (function : unit.FunctionDeclarator) (tokens : List Placed) → read_body names specifiers function tokens ≡ bind {Y = Read} (read_block names tokens) (λ body after. Ok ((unit.Definition specifiers function body.0 body.1, names), after))
body-same names specifiers function tokens =
    sym (bind-bind {Z = Read} (token Nothing (opens 1) (mark_offset punctuator.LeftBrace) tokens) (λ _ rest. read_then (read_parts names (expressions names) (read_statement names (expressions names) statement_fuel) 1) (λ _. token Nothing plain (mark_offset punctuator.RightBrace)) rest) (λ body after. Ok ((unit.Definition specifiers function body.0 body.1, names), after)))
