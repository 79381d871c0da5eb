-- Parsers of the initial value of a global, of which no tree is kept (ISO C11, 6.7.9). `fuel` is how many braces may
-- still open inside. A parser gives the expression with which the initial value ends, or none.
use Rattle.std.specs.Prelude.{ℕ, zero, suc, ◌||◌, Bool, List, Option, Some, None}
use Rattle.std.specs.Option.{option_map_or}
use Rattle.c_token_spec.specs.declared.token.Punctuator.TheVariants as punctuator
use Rattle.c_token_spec.specs.Lexical.{Placed, Token}
use Rattle.c_syntax_spec.specs.Expression as tree
use Rattle.c_parse_spec.specs.declared.Role.{Role}
use Rattle.c_parse_spec.specs.declared.Role.TheVariants.{Nothing, OperandEnd}
use Rattle.c_parse_spec.specs.Leaves.{plain, expected, opens}
use Rattle.exact_read.specs.Reading.{Parser}
use Rattle.exact_read.specs.Grammar.{context_after, read_then, read_map, read_many}
use Rattle.c_parse_laws.specs.Classes.{is_mark, mark_offset, name_at}
use Rattle.c_parse_laws.specs.Parsers.{Parsers, token, following, before, choose}
use Rattle.c_parse_laws.specs.Fuel.{limit_exceeded}
use Rattle.c_parse_laws.specs.Firsts.{begins_expression}

-- `.` and a member, or an index in brackets
abbrev pub read_designator : Parsers → (depth : ℕ) → Parser Placed Role (Unit {0})
read_designator inner depth =
    choose (is_mark punctuator.Dot)
    (following (token Nothing plain (mark_offset punctuator.Dot)) (λ _. read_map (λ _. tt {0}) (token Nothing plain name_at)))
    (following (token Nothing (opens (suc depth)) (mark_offset punctuator.LeftBracket)) (λ _. read_map (λ _. tt {0}) (before (inner.conditional (suc depth) 0) (token OperandEnd (expected OperandEnd) (mark_offset punctuator.RightBracket)))))

abbrev pub begins_designator : Token → Bool
begins_designator token = is_mark punctuator.Dot token || is_mark punctuator.LeftBracket token

-- one designator or more
abbrev pub read_designators : Parsers → (depth : ℕ) → Parser Placed Role (Unit {0})
read_designators inner depth =
    read_map (λ _. tt {0}) (read_then (read_designator inner depth) (λ _. read_many (λ (_ : Unit {0}) next. begins_designator next.token) (λ _. read_designator inner depth) (λ _ _. tt {0}) (tt {0})))

-- what is expected after an initial value
abbrev pub end_of_initial : Option tree.Expression → Role
end_of_initial last = option_map_or (λ _. OperandEnd) last Nothing

-- a `,` can follow an initial value, and another value the `,`
pub data ListPosition : Type 0 where
  AfterInitial : (last : Option tree.Expression) → ListPosition
  FollowingComma : ListPosition

abbrev pub begins_initial : (names : List (List ℕ)) → Token → Bool
begins_initial names token = is_mark punctuator.LeftBrace token || begins_designator token || begins_expression names token

abbrev pub initials_start : (names : List (List ℕ)) → ListPosition → Placed → Bool
initials_start names (AfterInitial last) next = is_mark punctuator.Comma next.token
initials_start names FollowingComma next = begins_initial names next.token

abbrev pub next_position : ListPosition → Option (Option tree.Expression) → ListPosition
next_position position None = FollowingComma
next_position position (Some last) = AfterInitial last

abbrev pub end_of_position : ListPosition → Role
end_of_position (AfterInitial last) = end_of_initial last
end_of_position FollowingComma = Nothing

-- which member or element a value is for, and `=`, or nothing; and an initial value
abbrev pub read_designated : Parsers → (depth : ℕ) → (initial : Parser Placed Role (Option tree.Expression)) → Parser Placed Role (Option tree.Expression)
read_designated inner depth initial = choose begins_designator (following (before (read_designators inner depth) (token Nothing plain (mark_offset punctuator.Assign))) (λ _. initial)) initial

abbrev pub read_initials_part : Parsers → (depth : ℕ) → (initial : Parser Placed Role (Option tree.Expression)) → ListPosition → Parser Placed Role (Option (Option tree.Expression))
read_initials_part inner depth initial (AfterInitial last) = read_map (λ _. None) (token (end_of_initial last) (expected (end_of_initial last)) (mark_offset punctuator.Comma))
read_initials_part inner depth initial FollowingComma = read_map (λ last. Some last) (read_designated inner depth initial)

-- initial values after a `{`, with its `}`
abbrev pub read_initials : (names : List (List ℕ)) → Parsers → (depth : ℕ) → (initial : Parser Placed Role (Option tree.Expression)) → Parser Placed Role (Unit {0})
read_initials names inner depth initial =
    read_map (λ _. tt {0}) (read_then (read_designated inner depth initial)
    (λ first. read_then (read_many (initials_start names) (read_initials_part inner depth initial) next_position (AfterInitial first))
    (λ parts. token (end_of_position (context_after next_position (AfterInitial first) parts)) (expected (end_of_position (context_after next_position (AfterInitial first) parts))) (mark_offset punctuator.RightBrace))))

abbrev pub read_initial_around : (names : List (List ℕ)) → Parsers → (depth : ℕ) → (initial : Parser Placed Role (Option tree.Expression)) → Parser Placed Role (Option tree.Expression)
read_initial_around names inner depth initial =
    choose (is_mark punctuator.LeftBrace)
    (following (token Nothing (opens (suc depth)) (mark_offset punctuator.LeftBrace)) (λ _. choose (is_mark punctuator.RightBrace)
    (read_map (λ _. None) (token Nothing plain (mark_offset punctuator.RightBrace)))
    (read_map (λ _. None) (read_initials names inner (suc depth) initial))))
    (read_map (λ x. Some x) (inner.conditional depth 0))

-- an initial value
unfoldable pub read_initial : (names : List (List ℕ)) → Parsers → (fuel depth : ℕ) → Parser Placed Role (Option tree.Expression)
read_initial names inner zero depth = limit_exceeded
read_initial names inner (suc fuel) depth = read_initial_around names inner depth (read_initial names inner fuel (suc depth))
