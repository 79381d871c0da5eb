-- Where what is assigned or returned, and an expression statement, end.
use Rattle.std.specs.Prelude.{◌&&◌, not, Bool, true}
use Rattle.std.specs.Option.{is_some}
use Rattle.c_token_spec.specs.declared.token.Punctuator.TheVariants as punctuator
use Rattle.c_token_spec.specs.Lexical.{Placed}
use Rattle.c_syntax_spec.specs.Expression as tree
use Rattle.c_syntax_spec.specs.Unit as unit
use Rattle.c_parse_laws.specs.Classes.{is_mark}
use Rattle.c_parse_laws.specs.Stops.{stop_cast, stop_conditional}
use Rattle.c_parse_laws.specs.Values.{is_postfix, is_unary, is_name, assign_operator, step_operator}

-- a call is continued by nothing, an expression by what continues it, and by a `(` where it is a name
abbrev pub stop_called : (stop : tree.Expression → Placed → Bool) → unit.Value → Placed → Bool
stop_called stop (unit.Called call) next = true
stop_called stop (unit.Computed x) next = stop x next && not (is_name x && is_mark punctuator.LeftParenthesis next.token)

abbrev pub stop_value : unit.Value → Placed → Bool
stop_value = stop_called stop_conditional

-- an expression that begins a statement doesn't go on with an assignment or a step where its tree allows one
abbrev pub stop_begun : tree.Expression → Placed → Bool
stop_begun x next =
    ((stop_conditional x next && not (is_unary x && is_mark punctuator.Assign next.token)) && not (is_unary x && is_some (assign_operator next.token))) && not (is_postfix x && is_some (step_operator next.token))

abbrev pub stop_simple : unit.Simple → Placed → Bool
stop_simple (unit.Assign target value offset) next = stop_value value next
stop_simple (unit.AssignBy operator target value offset) next = stop_conditional value next
stop_simple (unit.StepAfter operator target offset) next = true
stop_simple (unit.StepBefore operator target offset) next = stop_cast target next
stop_simple (unit.Evaluate value) next = stop_called stop_begun value next
