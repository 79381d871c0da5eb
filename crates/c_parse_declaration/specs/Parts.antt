-- Parts of calls, of expression statements and of declarations.
use Rattle.std.specs.Prelude.{ℕ, ◌+◌, Bool, true, false, List}
use Rattle.c_token_spec.specs.declared.token.Punctuator.TheVariants as punctuator
use Rattle.c_token_spec.specs.Lexical.{Placed}
use Rattle.c_syntax_spec.specs.Expression as tree
use Rattle.c_syntax_spec.specs.Unit as unit
use Rattle.c_parse_spec.specs.declared.Role.{Role}
use Rattle.c_parse_spec.specs.declared.Role.TheVariants.{OperandEnd}
use Rattle.c_parse_spec.specs.Leaves.{expected}
use Rattle.c_parse_spec.specs.Expressions.{operators}
use Rattle.exact_read.specs.Reading.{Parser}
use Rattle.exact_read.specs.Grammar.{read_then, read_map, read_many, read_nothing}
use Rattle.c_parse_laws.specs.Classes.{is_mark, mark_offset}
use Rattle.c_parse_laws.specs.Parsers.{Parsers, token, following}
use Rattle.c_parse_laws.specs.Types.{expressions_of}
use Rattle.c_parse_laws.specs.Parameters as parameters
use Rattle.c_parse_token.specs.Lists.{names_of}
use Rattle.c_parse_expression.specs.Whole.{expressions}
use Rattle.c_parse_declaration.specs.declared.Scope.{Scope}

-- the typedef names in a scope, and the reference parsers of expressions and types there
abbrev pub names_in : Scope → List (List ℕ)
names_in scope = names_of scope.names.now

abbrev pub parsers_in : Scope → Parsers
parsers_in scope = expressions scope.names.now

-- arguments after a first one, up to which there are so many operators, and the `)`
abbrev pub read_arguments_from : Parsers → (depth count : ℕ) → (first : tree.Expression) → Parser Placed Role tree.Expressions
read_arguments_from inner depth count first =
    read_map (λ made. tree.expressions made.0 (expressions_of made.1.0))
    (read_then (read_nothing first)
    (λ _. read_then (read_many (λ (_ : ℕ) next. is_mark punctuator.Comma next.token) (λ so_far. following (token OperandEnd (expected OperandEnd) (mark_offset punctuator.Comma)) (λ _. inner.conditional depth so_far)) (λ so_far x. so_far + operators x) count)
    (λ more. token OperandEnd (expected OperandEnd) (mark_offset punctuator.RightParenthesis))))

-- what is after the name of a function
abbrev pub read_function : (names : List (List ℕ)) → Parsers → (pointers : ℕ) → tree.Name → Parser Placed Role unit.Global
read_function names inner pointers name = read_map (λ function. unit.Function function) (parameters.read_function names inner 0 pointers name)

-- the dimensions of no array
abbrev pub has_none : Bool × tree.Expressions → Bool
has_none (false, tree.no_expressions) = true
has_none (false, tree.expressions length rest) = false
has_none (true, lengths) = false
