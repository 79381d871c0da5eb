-- Parsers of declarations of locals (ISO C11, 6.7).
use Rattle.std.specs.Prelude.{ℕ, ◌||◌, Bool, List, [], ◌∷◌, Some, None}
use Rattle.std.specs.Option.{option_map_or}
use Rattle.c_token_spec.specs.declared.token.Punctuator.{Punctuator}
use Rattle.c_token_spec.specs.declared.token.Punctuator.TheVariants as punctuator
use Rattle.c_token_spec.specs.Lexical.{Placed, Token}
use Rattle.c_syntax_spec.specs.Unit as unit
use Rattle.c_parse_spec.specs.declared.Role.{Role}
use Rattle.c_parse_spec.specs.declared.Role.TheVariants.{Nothing}
use Rattle.c_parse_spec.specs.Expressions.{Alone}
use Rattle.c_parse_spec.specs.Leaves.{plain, expected}
use Rattle.c_parse_spec.specs.Statements.{value_end}
use Rattle.exact_read.specs.Reading.{Parser}
use Rattle.exact_read.specs.Grammar.{read_then, read_map, read_many, read_nothing}
use Rattle.c_parse_laws.specs.Classes.{is_mark, mark_offset, begins_type}
use Rattle.c_parse_laws.specs.Parsers.{Parsers, token, following, choose}
use Rattle.c_parse_laws.specs.Types.{plain_name_at, read_declarator}
use Rattle.c_parse_laws.specs.Around.{is_word, local_word, read_local_specifiers}
use Rattle.c_parse_laws.specs.Values.{read_value}

-- the last of a part and those after it
abbrev pub last_of : {X : Type 0} → X → List X → X
last_of x [] = x
last_of x (y ∷ ys) = last_of y ys

-- a first part, parts with `,` before each, and a token after the last; `end` is what is expected after a part
abbrev pub read_list_from : {X : Type 0} → (end : X → Role) → (close : Punctuator) → (first item : Parser Placed Role X) → Parser Placed Role (List X)
read_list_from end close first item =
    read_map (λ made. made.0 ∷ made.1.0)
    (read_then first
    (λ x. read_then (read_many (λ (_ : Role) next. is_mark punctuator.Comma next.token) (λ role. following (token role (expected role) (mark_offset punctuator.Comma)) (λ _. item)) (λ _ y. end y) (end x))
    (λ more. token (end (last_of x more)) (expected (end (last_of x more))) (mark_offset close))))

-- a local, and its initial value
abbrev pub read_local : (names : List (List ℕ)) → Parsers → (depth : ℕ) → Parser Placed Role unit.Local
read_local names inner depth =
    read_map (λ made. record { declarator = made.0; value = made.1 }) (read_then (read_declarator (plain_name_at names) inner depth Alone) (λ _. choose (is_mark punctuator.Assign)
    (following (token Nothing plain (mark_offset punctuator.Assign)) (λ _. read_map (λ value. Some value) (read_value inner depth 0))) (read_nothing None)))

abbrev pub end_of_local : unit.Local → Role
end_of_local local = option_map_or value_end local.value Nothing

-- locals with the `;` after them
abbrev pub read_locals : (names : List (List ℕ)) → Parsers → (depth : ℕ) → Parser Placed Role unit.Locals
read_locals names inner depth =
    read_map (λ made. record { specifiers = made.0; locals = made.1 })
    (read_then (read_local_specifiers names inner depth) (λ _. read_list_from end_of_local punctuator.Semicolon (read_local names inner depth) (read_local names inner depth)))

-- what a declaration of locals begins with
abbrev pub begins_locals : (names : List (List ℕ)) → Token → Bool
begins_locals names token = is_word local_word token || begins_type names token
