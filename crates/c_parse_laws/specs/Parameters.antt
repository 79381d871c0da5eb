-- Parsers of parameters and of declarators in external declarations (ISO C11, 6.7.6.3, 6.9).
use Rattle.std.specs.Prelude.{ℕ, suc, ◌&&◌, not, Bool, true, false, if◌then◌else◌, List, [], Option, Some, None}
use Rattle.c_token_spec.specs.declared.token.Keyword.TheVariants.{Void}
use Rattle.c_token_spec.specs.declared.token.Punctuator.TheVariants as punctuator
use Rattle.c_token_spec.specs.Lexical.{Placed, Token, Word}
use Rattle.c_syntax_spec.specs.Expression as tree
use Rattle.c_syntax_spec.specs.Unit as unit
use Rattle.c_parse_spec.specs.declared.Role.{Role}
use Rattle.c_parse_spec.specs.declared.Role.TheVariants.{Nothing, DeclaredName}
use Rattle.c_parse_spec.specs.Expressions.{Alone}
use Rattle.c_parse_spec.specs.Leaves.{plain, expected, opens}
use Rattle.exact_read.specs.Reading.{Parser}
use Rattle.exact_read.specs.Grammar.{read_then, read_map, read_nothing}
use Rattle.c_parse_laws.specs.Classes.{is_mark, mark_offset}
use Rattle.c_parse_laws.specs.Parsers.{Parsers, token, following, choose}
use Rattle.c_parse_laws.specs.Types.{no_storage, plain_name_at, is_plain_name, read_consts, read_pointer, read_dimensions}
use Rattle.c_parse_laws.specs.Declarations.{read_list_from}

-- a parameter's name, or none
abbrev pub read_optional_name : (names : List (List ℕ)) → Parser Placed Role (Option tree.Name)
read_optional_name names = choose (is_plain_name names) (read_map (λ name. Some name) (token DeclaredName (expected DeclaredName) (plain_name_at names))) (read_nothing None)

-- what follows the specifiers of a parameter
abbrev pub ParameterRest : Type 0
ParameterRest = ℕ × (Option tree.Name × (Bool × tree.Expressions))

abbrev pub read_parameter_rest : (names : List (List ℕ)) → Parsers → (depth : ℕ) → Parser Placed Role ParameterRest
read_parameter_rest names inner depth = read_then read_pointer (λ _. read_then (read_optional_name names) (λ _. read_dimensions inner depth Alone))

abbrev pub parameter_of : tree.Specifiers → ParameterRest → unit.Parameter
parameter_of specifiers rest = record { specifiers = specifiers; pointers = rest.0; name = rest.1.0; is_open = rest.1.1.0; lengths = rest.1.1.1 }

abbrev pub read_parameter : (names : List (List ℕ)) → Parsers → (depth : ℕ) → Parser Placed Role unit.Parameter
read_parameter names inner depth = read_map (λ made. parameter_of made.0 made.1) (read_then (inner.specifiers depth Alone) (λ _. read_parameter_rest names inner depth))

-- a parameter of which `void` at this offset was read
abbrev pub void_at : (offset : ℕ) → tree.Specifiers
void_at offset = tree.Specified no_storage tree.Void offset

abbrev pub read_void_parameter : (names : List (List ℕ)) → Parsers → (depth offset : ℕ) → Parser Placed Role unit.Parameter
read_void_parameter names inner depth offset = read_map (λ made. parameter_of (void_at offset) made.1) (read_then read_consts (λ _. read_parameter_rest names inner depth))

-- what is expected after a parameter: where it has neither a name nor lengths, its name
abbrev pub end_of_parts : Option tree.Name → (is_open : Bool) → tree.Expressions → Role
end_of_parts None false tree.no_expressions = DeclaredName
end_of_parts None false (tree.expressions length rest) = Nothing
end_of_parts None true lengths = Nothing
end_of_parts (Some name) is_open lengths = Nothing

abbrev pub end_of_parameter : unit.Parameter → Role
end_of_parameter parameter = end_of_parts parameter.name parameter.is_open parameter.lengths

abbrev pub is_void : Token → Bool
is_void (Word Void) = true
is_void other = false

abbrev pub void_offset : Placed → Option ℕ
void_offset next = if is_void next.token then Some next.offset else None

-- what follows the `(` of a function, with its `)`: `void` alone is no parameter
abbrev pub read_parameters : (names : List (List ℕ)) → Parsers → (depth : ℕ) → Parser Placed Role (List unit.Parameter)
read_parameters names inner depth =
    choose (is_mark punctuator.RightParenthesis) (read_map (λ _. []) (token Nothing plain (mark_offset punctuator.RightParenthesis)))
    (choose is_void
    (following (token Nothing plain void_offset) (λ offset. choose (is_mark punctuator.RightParenthesis)
    (read_map (λ _. []) (token DeclaredName (expected DeclaredName) (mark_offset punctuator.RightParenthesis)))
    (read_list_from end_of_parameter punctuator.RightParenthesis (read_void_parameter names inner depth offset) (read_parameter names inner depth))))
    (read_list_from end_of_parameter punctuator.RightParenthesis (read_parameter names inner depth) (read_parameter names inner depth)))

-- after the pointers and the name of a function
abbrev pub read_function : (names : List (List ℕ)) → Parsers → (depth pointers : ℕ) → tree.Name → Parser Placed Role unit.FunctionDeclarator
read_function names inner depth pointers name =
    following (token Nothing (opens (suc depth)) (mark_offset punctuator.LeftParenthesis)) (λ _. read_map (λ list. record { pointers = pointers; name = name; parameters = list }) (read_parameters names inner (suc depth)))

-- a declarator in an external declaration: with `typedef` it is no function's
abbrev pub read_global : (names : List (List ℕ)) → Parsers → (is_typedef : Bool) → Parser Placed Role unit.Global
read_global names inner is_typedef =
    following (read_then read_pointer (λ _. token DeclaredName (expected DeclaredName) (plain_name_at names)))
    (λ made. choose (λ next. not is_typedef && is_mark punctuator.LeftParenthesis next)
    (read_map (λ function. unit.Function function) (read_function names inner 0 made.0 made.1))
    (read_map (λ dimensions. unit.Object (tree.Declared made.0 made.1 dimensions.0 dimensions.1)) (read_dimensions inner 0 Alone)))
