-- Parts of the reference parsers of external declarations and of initial values, as the program has them.
use Rattle.std.specs.Prelude.{ℕ, List, [], ◌++◌, Option, Some, None, Bool, Ok}
use Rattle.c_token_spec.specs.declared.token.Punctuator.TheVariants as punctuator
use Rattle.c_token_spec.specs.Lexical.{Placed}
use Rattle.c_syntax_spec.specs.Expression as tree
use Rattle.c_syntax_spec.specs.Unit as unit
use Rattle.c_parse_spec.specs.declared.Role.{Role}
use Rattle.c_parse_spec.specs.declared.Role.TheVariants.{Nothing}
use Rattle.c_parse_spec.specs.Leaves.{plain, expected, opens}
use Rattle.c_parse_spec.specs.Units.{is_typedef}
use Rattle.exact_read.specs.Reading.{Parser}
use Rattle.exact_read.specs.Grammar.{bind, read_many, read_map, read_nothing, read_then}
use Rattle.c_parse_laws.specs.Classes.{is_mark, mark_offset}
use Rattle.c_parse_laws.specs.Parsers.{Parsers, token, following, before, choose}
use Rattle.c_parse_laws.specs.Parameters.{read_global}
use Rattle.c_parse_laws.specs.Initializers as initializers
use Rattle.c_parse_laws.specs.Statements.{read_parts, read_statement}
use Rattle.c_parse_spec.specs.Limits.{statement_fuel}
use Rattle.c_parse_laws.specs.Units.{Initial, Read, State, expressions, globals_of, state_after, state_following, next_state, read_initial_declarator, read_after_global}

-- which member or element a value is for, and `=`
abbrev pub read_designation : Parsers → (depth : ℕ) → Parser Placed Role (Unit {0})
read_designation inner depth = before (initializers.read_designators inner depth) (token Nothing plain (mark_offset punctuator.Assign))

-- the body of a function, and the offset of the `}` that closes it
abbrev pub read_block : (names : List (List ℕ)) → Parser Placed Role (unit.Parts × ℕ)
read_block names = following (token Nothing (opens 1) (mark_offset punctuator.LeftBrace)) (λ _. read_then (read_parts names (expressions names) (read_statement names (expressions names) statement_fuel) 1) (λ _. token Nothing plain (mark_offset punctuator.RightBrace)))

-- an external declaration after its specifiers
abbrev pub read_after_specifiers : (names : List (List ℕ)) → tree.Specifiers → Parser Placed Role Read
read_after_specifiers names specifiers =
    choose (is_mark punctuator.Semicolon)
    (read_map (λ _. (unit.Declaration specifiers [], names)) (token Nothing plain (mark_offset punctuator.Semicolon)))
    (following (read_global names (expressions names) (is_typedef specifiers)) (λ global. read_after_global names specifiers global))

-- the initial value of a global, if there is one, where these typedef names are in scope
abbrev pub read_value : (names : List (List ℕ)) → Parser Placed Role (Option (Option tree.Expression))
read_value names =
    choose (is_mark punctuator.Assign)
    (following (token Nothing plain (mark_offset punctuator.Assign)) (λ _. read_map (λ last. Some last) (initializers.read_initial names (expressions names) statement_fuel 0)))
    (read_nothing None)

-- a global, and what is in scope and expected after it
abbrev pub with_state : (is_typedef : Bool) → (names : List (List ℕ)) → Initial → unit.Global × State
with_state is_typedef names initial = (initial.0, state_after is_typedef names initial)

-- globals after those read, in this state, with the `;`
abbrev pub read_globals_after : tree.Specifiers → (read : List unit.Global) → (state : State) → Parser Placed Role Read
read_globals_after specifiers read state tokens =
    bind (read_many (λ (_ : State) next. is_mark punctuator.Comma next.token) (λ now. following (token now.1 (expected now.1) (mark_offset punctuator.Comma)) (λ _. read_initial_declarator now.0 (is_typedef specifiers))) (next_state (is_typedef specifiers)) state tokens)
    (λ more after. bind (token (state_following (is_typedef specifiers) state more).1 (expected (state_following (is_typedef specifiers) state more).1) (mark_offset punctuator.Semicolon) after)
    (λ _ rest. Ok ((unit.Declaration specifiers (read ++ globals_of more), (state_following (is_typedef specifiers) state more).0), rest)))

-- a declaration of these globals, and the typedef names in scope after it
abbrev pub declared_as : tree.Specifiers → (globals : List unit.Global) → (names : List (List ℕ)) → Read
declared_as specifiers globals names = (unit.Declaration specifiers globals, names)
