-- Where statements, and the contents of a block, end.
use Rattle.std.specs.Prelude.{◌&&◌, not, Bool, false}
use Rattle.c_token_spec.specs.declared.token.Keyword.TheVariants.{Else}
use Rattle.c_token_spec.specs.Lexical.{Placed}
use Rattle.c_syntax_spec.specs.Unit as unit
use Rattle.c_parse_spec.specs.Statements.{takes_else}
use Rattle.c_parse_laws.specs.Statements.{is_keyword, ends_parts}

-- a statement that could take an `else` is not followed by one
abbrev pub stop_statement : unit.Statement → Placed → Bool
stop_statement statement next = not (takes_else statement && is_keyword Else next.token)

-- whether an `else` after parts would belong to the last of them, or, where there is none, to what precedes them
abbrev pub last_open : (open_before : Bool) → unit.Parts → Bool
last_open open_before unit.no_parts = open_before
last_open open_before (unit.parts_local locals rest) = last_open false rest
last_open open_before (unit.parts_statement statement rest) = last_open (takes_else statement) rest

-- parts end where no other can begin
abbrev pub stop_parts : unit.Parts → Placed → Bool
stop_parts parts next = not (last_open false parts && is_keyword Else next.token) && not (not (ends_parts next.token))
