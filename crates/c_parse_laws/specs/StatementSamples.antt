-- Worked samples: what parsers give on a few tokens.
use Rattle.std.specs.Prelude.{◌≡◌, List, [], ◌∷◌, Ok, Err}
use Rattle.c_token_spec.specs.declared.token.Keyword.TheVariants.{Case, Else, If, Switch}
use Rattle.c_token_spec.specs.declared.token.NumberType.TheVariants.{SignedInt}
use Rattle.c_token_spec.specs.declared.token.Punctuator.TheVariants as punctuator
use Rattle.c_token_spec.specs.Lexical.{Placed}
use Rattle.c_syntax_spec.specs.Expression as tree
use Rattle.c_syntax_spec.specs.Unit as unit
use Rattle.c_parse_spec.specs.declared.Role.TheVariants.{Nothing}
use Rattle.c_parse_spec.specs.Leaves.{mark, keyword_at, number}
use Rattle.exact_read.specs.Reading.{LimitExceeded, Wrong}
use Rattle.c_parse_laws.specs.Fuel.{parsers}
use Rattle.c_parse_laws.specs.Statements.{read_statement}

abbrev pub one : tree.Expression
one = tree.Number 1 SignedInt 4

-- `if(1)if(1);else;`: the `else` belongs to the second `if`
abbrev pub else_tokens : List Placed
else_tokens =
    keyword_at If 0 ∷ mark punctuator.LeftParenthesis 2 ∷ number 1 SignedInt 4 ∷ mark punctuator.RightParenthesis 5
    ∷ keyword_at If 6 ∷ mark punctuator.LeftParenthesis 8 ∷ number 1 SignedInt 4 ∷ mark punctuator.RightParenthesis 9
    ∷ mark punctuator.Semicolon 10 ∷ keyword_at Else 11 ∷ mark punctuator.Semicolon 15 ∷ []

abbrev pub ReadsElse : Type 0
ReadsElse = read_statement [] (parsers [] 9) 5 1 else_tokens ≡ Ok (unit.If one (unit.IfElse one (unit.Empty 10) (unit.Empty 15) 6) 0, [])

-- `switch(1){;`: no statement precedes the first label
abbrev pub RefusesStatement : Type 0
RefusesStatement =
    read_statement [] (parsers [] 9) 5 1 (keyword_at Switch 0 ∷ mark punctuator.LeftParenthesis 2 ∷ number 1 SignedInt 4 ∷ mark punctuator.RightParenthesis 5 ∷ mark punctuator.LeftBrace 6 ∷ mark punctuator.Semicolon 7 ∷ [])
    ≡ Err (Wrong Nothing, mark punctuator.Semicolon 7 ∷ [])

-- `switch(1){case 1:;}`: one group
abbrev pub ReadsGroup : Type 0
ReadsGroup =
    read_statement [] (parsers [] 9) 5 1
    (keyword_at Switch 0 ∷ mark punctuator.LeftParenthesis 2 ∷ number 1 SignedInt 4 ∷ mark punctuator.RightParenthesis 5 ∷ mark punctuator.LeftBrace 6 ∷ keyword_at Case 7 ∷ number 1 SignedInt 4 ∷ mark punctuator.Colon 9 ∷ mark punctuator.Semicolon 10 ∷ mark punctuator.RightBrace 11 ∷ [])
    ≡ Ok (unit.Switch one (unit.groups (unit.Case one 7 ∷ []) (unit.parts_statement (unit.Empty 10) unit.no_parts) unit.no_groups) 0, [])

-- where 126 constructs are open, the `if` is the 127th and its `else` the 128th, so a `{` after it exceeds the nesting
-- limit
abbrev pub RefusesElse : Type 0
RefusesElse =
    read_statement [] (parsers [] 9) 5 126
    (keyword_at If 0 ∷ mark punctuator.LeftParenthesis 2 ∷ number 1 SignedInt 4 ∷ mark punctuator.RightParenthesis 5 ∷ mark punctuator.Semicolon 6 ∷ keyword_at Else 7 ∷ mark punctuator.LeftBrace 11 ∷ mark punctuator.RightBrace 12 ∷ [])
    ≡ Err (LimitExceeded, mark punctuator.LeftBrace 11 ∷ mark punctuator.RightBrace 12 ∷ [])
