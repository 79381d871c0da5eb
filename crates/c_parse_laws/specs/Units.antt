-- Parsers of external declarations and of units (ISO C11, 6.9).
use Rattle.std.specs.Prelude.{ℕ, Bool, true, List, [], ◌∷◌, map, Option, Some, None, Result}
use Rattle.std.specs.Option.{option_map_or}
use Rattle.c_token_spec.specs.declared.token.Punctuator.TheVariants as punctuator
use Rattle.c_token_spec.specs.Lexical.{Placed}
use Rattle.c_syntax_spec.specs.Expression as tree
use Rattle.c_syntax_spec.specs.Unit as unit
use Rattle.c_parse_spec.specs.declared.Role.{Role}
use Rattle.c_parse_spec.specs.declared.Role.TheVariants.{Nothing}
use Rattle.c_parse_spec.specs.Leaves.{plain, expected, opens}
use Rattle.c_parse_spec.specs.Units.{names_after, is_typedef}
use Rattle.c_parse_spec.specs.Limits.{statement_fuel, expression_fuel}
use Rattle.exact_read.specs.Reading.{Fault, Parser}
use Rattle.exact_read.specs.Grammar.{context_after, read_then, read_map, read_many, read_nothing, read_whole}
use Rattle.c_parse_laws.specs.Classes.{is_mark, mark_offset}
use Rattle.c_parse_laws.specs.Parsers.{Parsers, token, following, before, choose}
use Rattle.c_parse_laws.specs.Fuel.{parsers}
use Rattle.c_parse_laws.specs.Around.{read_external_specifiers}
use Rattle.c_parse_laws.specs.Parameters.{read_global}
use Rattle.c_parse_laws.specs.Initializers.{read_initial, end_of_initial}
use Rattle.c_parse_laws.specs.Statements.{read_statement, read_parts}

abbrev pub expressions : (names : List (List ℕ)) → Parsers
expressions names = parsers names expression_fuel

-- a global, and whether it has an initial value, with the expression with which this ends where it ends with one
abbrev pub Initial : Type 0
Initial = unit.Global × Option (Option tree.Expression)

abbrev pub end_of_global : Option (Option tree.Expression) → Role
end_of_global initial = option_map_or end_of_initial initial Nothing

-- the initial value of a global, after its declarator: a typedef name is in scope there already
abbrev pub read_initial_after : (names : List (List ℕ)) → (is_typedef : Bool) → unit.Global → Parser Placed Role Initial
read_initial_after names is_typedef global =
    choose (is_mark punctuator.Assign)
    (following (token Nothing plain (mark_offset punctuator.Assign)) (λ _. read_map (λ last. (global, Some last)) (read_initial (names_after is_typedef global names) (expressions (names_after is_typedef global names)) statement_fuel 0)))
    (read_nothing (global, None))

abbrev pub read_initial_declarator : (names : List (List ℕ)) → (is_typedef : Bool) → Parser Placed Role Initial
read_initial_declarator names is_typedef = following (read_global names (expressions names) is_typedef) (λ global. read_initial_after names is_typedef global)

-- the typedef names in scope after a global, and what is expected there
abbrev pub State : Type 0
State = List (List ℕ) × Role

abbrev pub state_after : (is_typedef : Bool) → (names : List (List ℕ)) → Initial → State
state_after is_typedef names initial = (names_after is_typedef initial.0 names, end_of_global initial.1)

abbrev pub next_state : (is_typedef : Bool) → State → Initial → State
next_state is_typedef state initial = state_after is_typedef state.0 initial

abbrev pub state_following : (is_typedef : Bool) → State → List Initial → State
state_following is_typedef state initials = context_after (next_state is_typedef) state initials

-- the globals after a first, with the `;`
abbrev pub read_more_globals : (is_typedef : Bool) → (state : State) → Parser Placed Role (List Initial)
read_more_globals is_typedef state =
    read_map (λ made. made.0) (read_then (read_many (λ (_ : State) next. is_mark punctuator.Comma next.token) (λ now. following (token now.1 (expected now.1) (mark_offset punctuator.Comma)) (λ _. read_initial_declarator now.0 is_typedef)) (next_state is_typedef) state)
    (λ more. token (state_following is_typedef state more).1 (expected (state_following is_typedef state more).1) (mark_offset punctuator.Semicolon)))

-- an external declaration, and the typedef names after it
abbrev pub Read : Type 0
Read = unit.ExternalDeclaration × List (List ℕ)

abbrev pub globals_of : List Initial → List unit.Global
globals_of initials = map (λ initial. initial.0) initials

-- after specifiers and a first global that doesn't begin with a body
abbrev pub read_globals : (names : List (List ℕ)) → tree.Specifiers → unit.Global → Parser Placed Role Read
read_globals names specifiers global =
    following (read_initial_after names (is_typedef specifiers) global)
    (λ first. read_map (λ more. (unit.Declaration specifiers (first.0 ∷ globals_of more), (state_following (is_typedef specifiers) (state_after (is_typedef specifiers) names first) more).0)) (read_more_globals (is_typedef specifiers) (state_after (is_typedef specifiers) names first)))

-- the body of a function
abbrev pub read_body : (names : List (List ℕ)) → tree.Specifiers → unit.FunctionDeclarator → Parser Placed Role Read
read_body names specifiers function =
    following (token Nothing (opens 1) (mark_offset punctuator.LeftBrace))
    (λ _. read_map (λ parsed. (unit.Definition specifiers function parsed.0 parsed.1, names)) (read_then (read_parts names (expressions names) (read_statement names (expressions names) statement_fuel) 1) (λ _. token Nothing plain (mark_offset punctuator.RightBrace))))

-- after specifiers and a first global
abbrev pub read_after_global : (names : List (List ℕ)) → tree.Specifiers → unit.Global → Parser Placed Role Read
read_after_global names specifiers (unit.Object declarator) = read_globals names specifiers (unit.Object declarator)
read_after_global names specifiers (unit.Function function) = choose (is_mark punctuator.LeftBrace) (read_body names specifiers function) (read_globals names specifiers (unit.Function function))

abbrev pub read_external_declaration : (names : List (List ℕ)) → Parser Placed Role Read
read_external_declaration names =
    choose (is_mark punctuator.Semicolon) (read_map (λ _. (unit.EmptyDeclaration, names)) (token Nothing plain (mark_offset punctuator.Semicolon)))
    (following (read_external_specifiers names (expressions names) 0) (λ specifiers. choose (is_mark punctuator.Semicolon)
    (read_map (λ _. (unit.Declaration specifiers [], names)) (token Nothing plain (mark_offset punctuator.Semicolon)))
    (following (read_global names (expressions names) (is_typedef specifiers)) (λ global. read_after_global names specifiers global))))

-- external declarations up to the end
abbrev pub read_external_declarations : Parser Placed Role unit.TranslationUnit
read_external_declarations = read_map (λ items. map (λ item. item.0) items) (read_many (λ (_ : List (List ℕ)) _. true) read_external_declaration (λ _ item. item.1) [])

abbrev pub read_unit : (tokens : List Placed) → Result unit.TranslationUnit (Fault Role × List Placed)
read_unit = read_whole Nothing read_external_declarations
